-- The cells and the book after the changes at the end of a process show the state after it.
use Rattle.std.proofs.Common.{◌≡◌, ℕ, ◌+◌, ◌-◌, ◌==◌, ◌&&◌, ◌||◌, not, Bool, true, false, cond, refl, sym, ap, ap₂, ◌∙◌, subst, List, [], length, get_or, set, arith, Option, Some, None, option_map}
use Rattle.std.proofs.Math.Path.{fun_ext}
use Rattle.std.proofs.lemmas.Bool.{false≢true}
use Rattle.k_types.specs.declared.names.Heap.{Heap}
use Rattle.k_types.specs.declared.names.Heap.TheVariants.{Kernel, Shared, User}
use Rattle.k_types.specs.declared.names.Name.{Name}
use Rattle.k_types.specs.Agree.{BookValue, CellValue, shown_by}
use Rattle.k_types.specs.Cells.{ProcessPart, ShownPart, part, pins_of}
use Rattle.k_types.specs.Counted.{counted}
use Rattle.k_types.specs.Names.{among, heap_eq, name_among}
use Rattle.k_types.specs.Owners.{object_bytes, owner_of, user}
use Rattle.k_types.specs.Reach.{is_shared_heap}
use Rattle.k_types.specs.State.{Sharing, has_share}
use Rattle.k_types.specs.Totals.{total}
use Rattle.k_types.specs.Trace.{Trace, limit_of}
use Rattle.k_types.proofs.NameTests.{heap_eq_sym}
use Rattle.k_agree.specs.Agreement.{BookShows, Shows}
use Rattle.k_agree.specs.Ending.{HasLeft}
use Rattle.k_agree.specs.GivingAway.{HasTakenIn, ended_cell}
use Rattle.k_agree.specs.GivingOnTheBook.{CanBeEnded, HasEnded, charged, leading_into, new_to_kernel}
use Rattle.k_agree.proofs.DrainedOnTheBook.{end_there}
use Rattle.k_agree.proofs.GivenAway.{exit_cell, exit_kernel}
use Rattle.k_agree.proofs.GivenOnTheBook.{end_on_the_book}
use Rattle.k_agree.proofs.Swept.{among_kept}
use Rattle.k_laws.specs.Counts.{one_if}
use Rattle.k_commit.specs.k_book.Books.{BookRecord}
use Rattle.k_commit.specs.k_book.Calls.{ChangesEntries, ChangesPins}
use Rattle.k_commit.specs.k_cell.Holdings.{HoldingsValue}
use Rattle.k_laws.specs.BookChanges.{registers_in}
use Rattle.k_laws.specs.CellChanges.{either_of, ended_process, with_objects}
use Rattle.k_laws.specs.PartUpdates.{done_in}
use Rattle.k_commit.specs.k_heap.Heaps.{HeapRecord, has_ended_in, holdings_of, own_segment, with_process_ended}
use Rattle.k_own.specs.Charges.{HasCredited, bytes_shared, limit_in}
use Rattle.k_own.specs.Ending.{MarksEnded}
use Rattle.k_own.specs.Exiting.{HasGivenUp, HaveMetToExit, ended_state}
use Rattle.k_own.specs.Exits.{EntriesFollow, HasCut, HasNoExits, HasPassed, into_segment, is_passed}
use Rattle.k_own.specs.Registers.{HasLetGo}
use Rattle.k_own.specs.Segments.{HasGiven}
use Rattle.k_own.proofs.Leaver.{booked, charge_is, kernel_shows, limit_is, may, now, numbered, passed_is, shows, sound}
use Rattle.k_own.proofs.Leaving.{entries_change}
use Rattle.k_own.proofs.OnceEach.{each_once, once_among, once_distinct}
use Rattle.k_own.proofs.HeapTold.{led_by_segment, none_shown, shows_as}

-- the kernel's bit once the item was passed
passed_bit : (K S C P : Bool) → (P ≡ true → S ≡ false) → one_if ((K && not S) || (C && P)) ≡ one_if (K && not S) + one_if (C && (P && not K))
passed_bit K S C true f = go K S C (f refl)
  where
    go : (K S C : Bool) → S ≡ false → one_if ((K && not S) || (C && true)) ≡ one_if (K && not S) + one_if (C && (true && not K))
    go K true C e = absurd (false≢true (sym e))
    go true false true e = refl
    go true false false e = refl
    go false false true e = refl
    go false false false e = refl
passed_bit true true true false f = refl
passed_bit true true false false f = refl
passed_bit true false true false f = refl
passed_bit true false false false f = refl
passed_bit false S true false f = refl
passed_bit false S false false f = refl

-- a shared heap is no process's
apart : (h : Heap) (p : ℕ) → is_shared_heap h ≡ true → heap_eq h (user p) ≡ false
apart Kernel p t = absurd (false≢true t)
apart (User q) p t = absurd (false≢true t)
apart (Shared s) p t = refl

ended_once : (process : Option ProcessPart) (q : ProcessPart) → process ≡ Some q → has_ended_in (option_map ended_process process) ≡ true
ended_once process q is = ap (λ (p : Option ProcessPart). has_ended_in (option_map ended_process p)) is

done_once : (process : Option ProcessPart) → done_in (option_map ended_process process) ≡ done_in process
done_once None = refl
done_once (Some q) = refl

-- the cells and the book on the way
pub drained_heap : (c c1 : HeapRecord) → c1 ≡ record c { value = c1.value } → HasNoExits c.value c1.value → c1 ≡ record c { value = record c.value { exits = []; black_exits = c1.value.black_exits } }
drained_heap c c1 same none = same ∙ ap (λ (v : CellValue). record c { value = v }) none

pub passed_kernel : (seg : ℕ) (k k1 k2 : HoldingsValue) → k1 ≡ record k { value = k1.value } → HasCut seg k.value k1.value → k2 ≡ record k1 { value = record k1.value { exits = k2.value.exits } } →
    k2 ≡ record k { value = record k.value { exits = k2.value.exits; black_exits = k1.value.black_exits } }
passed_kernel seg k k1 k2 same cut passed =
    passed ∙ ap (λ (x : HoldingsValue). record x { value = record x.value { exits = k2.value.exits } }) (same ∙ ap (λ (v : CellValue). record k { value = v }) cut.rest)

pub same_process : (c c1 c2 : HeapRecord) → c1 ≡ record c { value = c1.value } → HasNoExits c.value c1.value →
    c2 ≡ record c1 { value = record c1.value { objects = c2.value.objects; made = c2.value.made }; serial_rooms = c2.serial_rooms } → (c2.pid ≡ c.pid) × (c2.value.process ≡ c.value.process)
same_process c c1 c2 same none rest =
    let first = drained_heap c c1 same none in
    (ap (λ (x : HeapRecord). x.pid) rest ∙ ap (λ (x : HeapRecord). x.pid) first, ap (λ (x : HeapRecord). x.value.process) rest ∙ ap (λ (x : HeapRecord). x.value.process) first)

pub credited_book : (b b1 b2 : BookRecord) (p bytes : ℕ) → ChangesPins b b1 → HasCredited b1 b2 p bytes → b2 ≡ record b { value = record b.value { shares = b2.value.shares; direct = b2.value.direct; pins = b1.value.pins } }
credited_book b b1 b2 p bytes first credited =
    credited.rest
    ∙ ap (λ direct. record b1 { value = record b1.value { shares = b2.value.shares; direct = direct } }) (sym (ap (λ (x : BookRecord). x.value.direct) credited.rest))
    ∙ ap (λ (x : BookRecord). record x { value = record x.value { shares = b2.value.shares; direct = b2.value.direct } }) first

pub drained_book : (b b1 b2 b3 b4 : BookRecord) (p bytes : ℕ) → ChangesPins b b1 → HasCredited b1 b2 p bytes → ChangesEntries b2 b3 → ChangesEntries b3 b4 →
    b4 ≡ record b { value = record b.value { shares = b2.value.shares; direct = b2.value.direct; entries = b4.value.entries; pins = b1.value.pins } }
drained_book b b1 b2 b3 b4 p bytes first credited second third =
    entries_change b2 b3 b4 second third ∙ ap (λ (x : BookRecord). record x { value = record x.value { entries = b4.value.entries } }) (credited_book b b1 b2 p bytes first credited)

-- the cell of the process through the changes, and the kernel's
module _ (c c1 c2 c3 : HeapRecord) (k k1 k2 k3 : HoldingsValue)
    (kernel_same : k1 ≡ record k { value = k1.value }) (cut : HasCut (own_segment c.pid) k.value k1.value)
    (same : c1 ≡ record c { value = c1.value }) (none : HasNoExits c.value c1.value) (passed : k2 ≡ record k1 { value = record k1.value { exits = k2.value.exits } })
    (rest : c2 ≡ record c1 { value = record c1.value { objects = c2.value.objects; made = c2.value.made }; serial_rooms = c2.serial_rooms })
    (given : HasGiven (own_segment c1.pid) (holdings_of c1) (holdings_of c2) k2 k3) (marked : c3 ≡ record c2 { value = with_process_ended c2.value }) where
  pub heap_drained : c1 ≡ record c { value = record c.value { exits = []; black_exits = c1.value.black_exits } }
  heap_drained = drained_heap c c1 same none

  pub kernel_passed : k2 ≡ record k { value = record k.value { exits = k2.value.exits; black_exits = k1.value.black_exits } }
  kernel_passed = passed_kernel (own_segment c.pid) k k1 k2 kernel_same cut passed

  emptied : c2 ≡ record c1 { value = record c1.value { objects = []; made = c2.value.made }; serial_rooms = set c1.serial_rooms (own_segment c1.pid) None }
  emptied =
      rest
      ∙ ap₂ (λ objects rooms. record c1 { value = record c1.value { objects = objects; made = c2.value.made }; serial_rooms = rooms })
      (ap (λ (h : HoldingsValue). h.value.objects) given.given_is) (ap (λ (h : HoldingsValue). h.serial_rooms) given.given_is)

  pub heap_then : c3 ≡ record c {
    value = record c.value { objects = []; made = c2.value.made; exits = []; black_exits = c1.value.black_exits; process = option_map ended_process c.value.process };
    serial_rooms = set c.serial_rooms (own_segment c.pid) None;
  }
  heap_then =
      marked
      ∙ ap (λ (x : HeapRecord). record x { value = with_process_ended x.value }) emptied
      ∙ ap (λ (x : HeapRecord). record x {
        value = record x.value { objects = []; made = c2.value.made; process = option_map ended_process x.value.process };
        serial_rooms = set x.serial_rooms (own_segment x.pid) None;
      }) heap_drained

  pub kernel_then : k3 ≡ record k {
    value = record k.value { objects = with_objects c.value.objects k.value.objects; made = k3.value.made; exits = k2.value.exits; black_exits = k1.value.black_exits };
    serial_rooms = set k.serial_rooms (own_segment c.pid) (get_or c.serial_rooms (own_segment c.pid) None);
  }
  kernel_then =
      given.taken_is
      ∙ ap₂ (λ (x : HoldingsValue) (y : HeapRecord). record x {
        value = record x.value { objects = with_objects y.value.objects x.value.objects; made = k3.value.made };
        serial_rooms = set x.serial_rooms (own_segment y.pid) (get_or y.serial_rooms (own_segment y.pid) None);
      }) kernel_passed heap_drained

  pub kernel_made : (j : ℕ) → get_or k3.value.made j None ≡ either_of (get_or k.value.made j None) (get_or c.value.made j None)
  kernel_made j =
      given.made j
      ∙ ap₂ (λ (x : HoldingsValue) (y : HeapRecord). either_of (get_or x.value.made j None) (get_or y.value.made j None)) kernel_passed heap_drained

module _ (trace : Trace) (c : HeapRecord) (k : HoldingsValue) (b : BookRecord) (met : HaveMetToExit trace c k b) where
  abbrev own : ℕ → Heap
  own = owner_of trace (now trace c k b met)

  abbrev seg : ℕ
  seg = own_segment c.pid

  -- the kernel's exit items after those of the heap were passed
  module _ (kept exits : List Name) (cut : (n : Name) → name_among n kept ≡ (name_among n k.value.exits && not (n.seg.0 == seg))) (passed : HasPassed b.value.homes c.value.exits kept exits) where
    passed_own : (n : Name) → (name_among n c.value.exits && is_passed b.value.homes n) ≡ (name_among n c.value.exits && is_shared_heap (own n.seg.0))
    passed_own n = go (name_among n c.value.exits) refl
      where
        go : (t : Bool) → name_among n c.value.exits ≡ t → (t && is_passed b.value.homes n) ≡ (t && is_shared_heap (own n.seg.0))
        go true there = passed_is trace c k b met n there
        go false gone = refl

    exits_then : (n : Name) → name_among n exits ≡ ((name_among n k.value.exits && not (heap_eq (own n.seg.0) (User c.pid))) || (name_among n c.value.exits && is_shared_heap (own n.seg.0)))
    exits_then n =
        passed n
        ∙ ap₂ (λ x y. x || y) (cut n ∙ ap (λ t. name_among n k.value.exits && not t) (sym (numbered trace c k b met n.seg.0))) (passed_own n)

    module _ (made : List (Option ℕ)) (black : List Name) (made_is : (j : ℕ) → get_or made j None ≡ either_of (get_or k.value.made j None) (get_or c.value.made j None)) where
      abbrev taken : CellValue
      taken = record k.value { objects = with_objects c.value.objects k.value.objects; made = made; exits = exits }

      takes_in : HasTakenIn own (User c.pid) c.value k.value taken
      takes_in = record { objects = refl; made = made_is; exits = exits_then; rest = refl }

      pub kernel_shows_then : Shows trace (ended_state trace b c.pid) Kernel (record taken { black_exits = black })
      kernel_shows_then =
          shows_as trace (ended_state trace b c.pid) Kernel taken (record taken { black_exits = black })
          (exit_kernel trace (now trace c k b met) c.pid.0 c.value k.value taken (sound trace c k b met) (may trace c k b met) (shows trace c k b met) (kernel_shows trace c k b met) met.have_met.other.idle takes_in)
          met.have_met.other.idle met.have_met.other.idle refl

    -- what the kernel is passed anew
    new_bit : (n : Name) → one_if (name_among n exits) ≡ one_if (name_among n kept) + one_if (name_among n (new_to_kernel own c.value k.value))
    new_bit n =
        ap one_if (exits_then n)
        ∙ passed_bit (name_among n k.value.exits) (heap_eq (own n.seg.0) (User c.pid)) (name_among n c.value.exits) (is_shared_heap (own n.seg.0)) (apart (own n.seg.0) c.pid.0)
        ∙ ap₂ (λ x y. one_if x + one_if y)
        (ap (λ t. name_among n k.value.exits && not t) (numbered trace c k b met n.seg.0) ∙ sym (cut n))
        (sym (among_kept (λ m. is_shared_heap (own m.seg.0) && not (name_among m k.value.exits)) c.value.exits n))

  -- the heap's cell
  pub heap_shows_then : (made : List (Option ℕ)) (black : List Name) → ((j : ℕ) → get_or made j None ≡ None) →
      Shows trace (ended_state trace b c.pid) (User c.pid)
      (record c.value { objects = []; made = made; exits = []; black_exits = black; process = option_map ended_process c.value.process })
  heap_shows_then made black none =
      shows_as trace (ended_state trace b c.pid) (User c.pid) (ended_cell c.value)
      (record c.value { objects = []; made = made; exits = []; black_exits = black; process = option_map ended_process c.value.process })
      (exit_cell trace (now trace c k b met) c.pid.0 c.value (sound trace c k b met) (may trace c k b met) (shows trace c k b met) met.have_met.own.heap.idle)
      met.have_met.own.heap.idle met.have_met.own.heap.idle
      (none_shown (record c.value { objects = []; exits = []; black_exits = black; process = option_map ended_process c.value.process }) made none)

  -- values of the book between the drains, for the exit items without repetition
  abbrev heap_once : CellValue
  heap_once = record c.value { exits = each_once c.value.exits }

  abbrev kernel_once : CellValue
  kernel_once = record k.value { exits = each_once k.value.exits }

  once_shown : (v : CellValue) → shown_by (record v { exits = each_once v.exits }) ≡ shown_by v
  once_shown v = ap (λ (exits : Name → Bool). record (shown_by v) { exits = exits }) (fun_ext (once_among v.exits))

  can_be_ended : CanBeEnded trace own c.pid.0 heap_once kernel_once b.value
  can_be_ended =
      end_there trace (now trace c k b met) c.pid.0 heap_once kernel_once b.value met.have_met.own.book.keeps.limits (sound trace c k b met) (may trace c k b met) (booked trace c k b met)
      (shows_as trace (now trace c k b met) (User c.pid) c.value heap_once (shows trace c k b met) met.have_met.own.heap.idle met.have_met.own.heap.idle (once_shown c.value))
      (shows_as trace (now trace c k b met) Kernel k.value kernel_once (kernel_shows trace c k b met) met.have_met.other.idle met.have_met.other.idle (once_shown k.value))
      (once_distinct c.value.exits) (once_distinct k.value.exits)

  -- the book
  module _ (k1 k2 : HoldingsValue) (b1 b2 b3 b4 b5 : BookRecord) (unpinned : HasLetGo seg (registers_in c.value.process) b.value b1.value) (first : ChangesPins b b1)
      (credited : HasCredited b1 b2 c.pid.0 (total object_bytes c.value.objects + bytes_shared b1.value c.pid.0 (length b1.value.phases)))
      (cut : HasCut seg k.value k1.value) (left : HasLeft (into_segment seg k.value.exits) b2.value b3.value) (second : ChangesEntries b2 b3)
      (passed : HasPassed b3.value.homes c.value.exits k1.value.exits k2.value.exits) (follow : EntriesFollow c.value.exits k1.value.exits k2.value.exits b3.value b4.value) (third : ChangesEntries b3 b4)
      (marks : MarksEnded b4 b5 c.pid.0 seg) where
    abbrev bytes : ℕ
    bytes = charged trace b.value c.value c.pid.0

    abbrev direct : List ℕ
    direct = set b.value.direct (limit_of trace c.pid.0) (get_or b.value.direct (limit_of trace c.pid.0) 0 - bytes)

    bytes_are : total object_bytes c.value.objects + bytes_shared b1.value c.pid.0 (length b1.value.phases) ≡ bytes
    bytes_are = ap (λ (x : BookRecord). total object_bytes c.value.objects + bytes_shared x.value c.pid.0 (length x.value.phases)) first ∙ charge_is trace c k b met

    pub book_credited : b2 ≡ record b { value = record b.value { shares = b2.value.shares; direct = direct; pins = b1.value.pins } }
    book_credited =
        credited.rest
        ∙ ap (λ n. record b1 { value = record b1.value { shares = b2.value.shares; direct = set b1.value.direct (limit_in b1 c.pid.0) (get_or b1.value.direct (limit_in b1 c.pid.0) 0 - n) } }) bytes_are
        ∙ ap (λ (x : BookRecord). record x { value = record x.value { shares = b2.value.shares; direct = set x.value.direct (limit_in x c.pid.0) (get_or x.value.direct (limit_in x c.pid.0) 0 - bytes) } }) first
        ∙ ap (λ m. record b { value = record b.value { shares = b2.value.shares; direct = set b.value.direct m (get_or b.value.direct m 0 - bytes); pins = b1.value.pins } }) (limit_is trace c k b met)

    homes_kept : b3.value.homes ≡ b.value.homes
    homes_kept = ap (λ (x : BookRecord). x.value.homes) (second ∙ ap (λ (x : BookRecord). record x { value = record x.value { entries = b3.value.entries } }) book_credited)

    pub book_drained : b4 ≡ record b { value = record b.value { shares = b2.value.shares; direct = direct; entries = b4.value.entries; pins = b1.value.pins } }
    book_drained = entries_change b2 b3 b4 second third ∙ ap (λ (x : BookRecord). record x { value = record x.value { entries = b4.value.entries } }) book_credited

    pub book_then : b5 ≡ record b {
      value = record b.value {
        ended = b5.value.ended;
        shares = b2.value.shares;
        direct = direct;
        homes = set b.value.homes seg Kernel;
        entries = b5.value.entries;
        pins = b5.value.pins;
      };
    }
    book_then =
        marks.rest
        ∙ ap (λ (x : BookRecord). record x {
          value = record x.value { ended = b5.value.ended; homes = set x.value.homes seg Kernel; entries = b5.value.entries; pins = b5.value.pins };
        }) book_drained

    pub passed_homes : HasPassed b.value.homes c.value.exits k1.value.exits k2.value.exits
    passed_homes = subst (λ homes. HasPassed homes c.value.exits k1.value.exits k2.value.exits) homes_kept passed

    ends : HasEnded trace own c.pid.0 c.value k.value b.value can_be_ended.0 can_be_ended.1 b5.value
    ends =
        let e = can_be_ended.3 in
        record {
          left = λ n. ap (λ t. counted can_be_ended.0.entries n + one_if t) (sym (once_among c.value.exits n)) ∙ e.left n;
          cut = λ n. ap (λ t. counted can_be_ended.1.entries n + one_if t) (led_once n) ∙ e.cut n;
          passed = λ n.
              let one = e.left n in
              let two = e.cut n in
              let mine = left n in
              let was = ap (λ (x : BookRecord). counted x.value.entries n) book_credited in
              let step = follow n in
              let last = marks.counts.entries n in
              let new = new_bit k1.value.exits k2.value.exits cut.exits passed_homes n in
              let heap_bit = ap one_if (once_among c.value.exits n) in
              let led = ap one_if (led_once n) in
              let by_segment = ap one_if (led_by_segment own (User c.pid) seg k.value (numbered trace c k b met) n) in
              omega (arith, one, two, mine, was, step, last, new, heap_bit, led, by_segment);
          unpinned = λ n.
              ap₂ (λ x t. x + cond t 0 (pins_of (registers_in c.value.process) n)) (marks.counts.pins n ∙ ap (λ (x : BookRecord). counted x.value.pins n) book_drained)
              (heap_eq_sym (User c.pid) (own n.seg.0) ∙ numbered trace c k b met n.seg.0)
              ∙ unpinned n;
          credited = ap (λ (x : BookRecord). x.value.direct) book_then;
          shares = λ q t.
              ap (λ (x : BookRecord). has_share x.value.shares q t) book_then
              ∙ credited.shares q t ∙ ap (λ (x : BookRecord). has_share x.value.shares q t && not (q == c.pid.0)) first;
          homes = ap (λ (x : BookRecord). x.value.homes) book_then;
          ended = λ q. marks.ended q ∙ ap (λ (x : BookRecord). among q x.value.ended || (c.pid.0 == q)) book_drained;
          rest =
              ap (λ (x : BookRecord). x.value) book_then
              ∙ ap₂ (λ (shares : List Sharing) (rest : List ℕ). record b.value { ended = b5.value.ended; shares = shares; direct = rest; homes = set b.value.homes seg Kernel; entries = b5.value.entries; pins = b5.value.pins })
              (sym (ap (λ (x : BookRecord). x.value.shares) book_then)) (sym (ap (λ (x : BookRecord). x.value.direct) book_then))
              ∙ ap (λ homes. record b.value { ended = b5.value.ended; shares = b5.value.shares; direct = b5.value.direct; homes = homes; entries = b5.value.entries; pins = b5.value.pins })
              (sym (ap (λ (x : BookRecord). x.value.homes) book_then));
        }
      where
        led_once : (n : Name) → name_among n (leading_into own (User c.pid) k.value) ≡ name_among n (leading_into own (User c.pid) kernel_once)
        led_once n =
            among_kept (λ m. heap_eq (own m.seg.0) (User c.pid)) k.value.exits n
            ∙ ap (λ t. t && heap_eq (own n.seg.0) (User c.pid)) (sym (once_among k.value.exits n))
            ∙ sym (among_kept (λ m. heap_eq (own m.seg.0) (User c.pid)) kernel_once.exits n)

    pub book_shows_then : BookShows trace (ended_state trace b c.pid) b5.value
    book_shows_then =
        end_on_the_book trace met.have_met.own.book.keeps.limits (now trace c k b met) c.pid.0 c.value k.value b.value can_be_ended.0 can_be_ended.1 b5.value (sound trace c k b met) (may trace c k b met) (booked trace c k b met)
        (shows trace c k b met) (kernel_shows trace c k b met) ends

  process_there : (q : ProcessPart) × (c.value.process ≡ Some q)
  unfolding part
  process_there = (_, ap (λ (s : ShownPart). s.process) (shows trace c k b met).part)

  -- all together
  pub given_up : (c1 c2 c3 : HeapRecord) (k1 k2 k3 : HoldingsValue) (b1 b2 b3 b4 b5 : BookRecord) →
      HasLetGo seg (registers_in c.value.process) b.value b1.value → ChangesPins b b1 →
      HasCredited b1 b2 c.pid.0 (total object_bytes c.value.objects + bytes_shared b1.value c.pid.0 (length b1.value.phases)) →
      k1 ≡ record k { value = k1.value } → HasCut seg k.value k1.value → HasLeft (into_segment seg k.value.exits) b2.value b3.value → ChangesEntries b2 b3 →
      c1 ≡ record c { value = c1.value } → HasNoExits c.value c1.value → k2 ≡ record k1 { value = record k1.value { exits = k2.value.exits } } →
      HasPassed b3.value.homes c.value.exits k1.value.exits k2.value.exits → EntriesFollow c.value.exits k1.value.exits k2.value.exits b3.value b4.value → ChangesEntries b3 b4 →
      c2 ≡ record c1 { value = record c1.value { objects = c2.value.objects; made = c2.value.made }; serial_rooms = c2.serial_rooms } →
      HasGiven (own_segment c1.pid) (holdings_of c1) (holdings_of c2) k2 k3 →
      c3 ≡ record c2 { value = with_process_ended c2.value } → MarksEnded b4 b5 c.pid.0 seg → HasGivenUp trace c c3 k k3 b b5
  given_up c1 c2 c3 k1 k2 k3 b1 b2 b3 b4 b5 unpinned first credited kernel_same cut left second same none passed_kernel passed follow third rest given marked marks =
      let heap_is = heap_then c c1 c2 c3 k k1 k2 k3 kernel_same cut same none passed_kernel rest given marked in
      let kernel_is = kernel_then c c1 c2 c3 k k1 k2 k3 kernel_same cut same none passed_kernel rest given marked in
      let made_is = kernel_made c c1 c2 c3 k k1 k2 k3 kernel_same cut same none passed_kernel rest given marked in
      let book_is = book_then k1 k2 b1 b2 b3 b4 b5 unpinned first credited cut left second passed follow third marks in
      let homes = passed_homes k1 k2 b1 b2 b3 b4 b5 unpinned first credited cut left second passed follow third marks in
      let process = process_there in
      record {
        cell_is = heap_is ∙ ap (λ (v : CellValue). record c { value = v; serial_rooms = set c.serial_rooms seg None }) (sym (ap (λ (x : HeapRecord). x.value) heap_is));
        kernel_is = kernel_is ∙ ap (λ (v : CellValue). record k { value = v; serial_rooms = set k.serial_rooms seg (get_or c.serial_rooms seg None) }) (sym (ap (λ (x : HoldingsValue). x.value) kernel_is));
        book_is = book_is ∙ ap (λ (v : BookValue). record b { value = v }) (sym (ap (λ (x : BookRecord). x.value) book_is));
        settled = ap (λ (x : HeapRecord). x.value.tail) heap_is ∙ met.have_met.own.heap.settled;
        kernel_settled = ap (λ (x : HoldingsValue). x.value.tail) kernel_is ∙ met.have_met.other.agrees.tail;
        idle = ap (λ (x : HeapRecord). x.value.collection) heap_is ∙ met.have_met.own.heap.idle;
        kernel_idle = ap (λ (x : HoldingsValue). x.value.collection) kernel_is ∙ met.have_met.other.idle;
        ended = ap (λ (x : HeapRecord). has_ended_in x.value.process) heap_is ∙ ended_once c.value.process process.0 process.1;
        done = ap (λ (x : HeapRecord). done_in x.value.process) heap_is ∙ done_once c.value.process;
        shows = subst (λ (x : HeapRecord). Shows trace (ended_state trace b c.pid) (User c.pid) x.value) (sym heap_is) (heap_shows_then c2.value.made c1.value.black_exits given.none);
        kernel_shows = subst (λ (x : HoldingsValue). Shows trace (ended_state trace b c.pid) Kernel x.value) (sym kernel_is)
            (kernel_shows_then k1.value.exits k2.value.exits cut.exits homes k3.value.made k1.value.black_exits made_is);
        book_shows = book_shows_then k1 k2 b1 b2 b3 b4 b5 unpinned first credited cut left second passed follow third marks;
      }
