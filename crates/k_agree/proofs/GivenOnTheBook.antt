-- The book's value when a heap becomes the kernel's.
use Rattle.std.proofs.Common.{◌≡◌, ◌≢◌, ℕ, zero, suc, ◌+◌, ◌-◌, ◌<◌, ◌==◌, ◌||◌, ◌&&◌, not, Bool, true, false, cond, refl, sym, ap, ap₂, ◌∙◌, subst, List, [], ◌∷◌, ◌++◌, map, get_or, set, arith, nat_le, false-eqb, leb-false, IsTrue}
use Rattle.std.proofs.lemmas.Bool.{false≢true, and_parts, not-true, false_from_ne_true}
use Rattle.std.proofs.Math.Path.{fun_ext}
use Rattle.k_laws.specs.k_types.declared.event.Event.TheVariants.{Absorbed as AbsorbedEvent, Done}
use Rattle.k_laws.specs.k_types.declared.event.Reply.{Reply}
use Rattle.k_laws.specs.k_types.declared.names.Heap.{Heap}
use Rattle.k_laws.specs.k_types.declared.names.Heap.TheVariants.{Kernel}
use Rattle.k_laws.specs.k_types.declared.names.Name.{Name}
use Rattle.k_laws.specs.k_types.declared.names.Phase.TheVariants.{Absorbed}
use Rattle.k_laws.specs.k_types.declared.names.Pid.{Pid}
use Rattle.k_laws.specs.k_types.declared.names.SharedId.{SharedId}
use Rattle.k_laws.specs.k_types.declared.op.Op.TheVariants.{Exit, Kill}
use Rattle.k_laws.specs.k_types.Agree.{BookValue, CellValue, book_shown_by}
use Rattle.k_laws.specs.k_types.Counted.{counted}
use Rattle.k_laws.specs.k_types.Cells.{BookPart, CellPart, ShownPart, part, book_part, pins_of, cells_touched, other_cells}
use Rattle.k_laws.specs.k_types.Effects.{after_absorbed, after_end_of, step}
use Rattle.k_laws.specs.k_types.Names.{among, heap_eq, name_among}
use Rattle.k_laws.specs.k_types.Numbers.{numbers_below, numbers_from}
use Rattle.k_laws.specs.k_types.Owners.{owner_of, owner_of_segment, shared, user, object_bytes, is_absorbed, phase_of}
use Rattle.k_laws.specs.k_types.Reach.{is_shared_heap}
use Rattle.k_laws.specs.k_types.Sound.{IsSound}
use Rattle.k_laws.specs.k_types.Replies.{ends_other}
use Rattle.k_laws.specs.k_types.State.{State, has_share, is_scanned}
use Rattle.k_laws.specs.k_types.Steps.{IsPossible, has_sharer, is_live, state_after}
use Rattle.k_laws.specs.k_types.Totals.{total}
use Rattle.k_laws.specs.k_types.Trace.{Trace, limit_of, process_count, segment_of, segment_count}
use Rattle.k_laws.specs.k_types.TraceRules.{AreLimits}
use Rattle.k_laws.specs.k_types.Updates.{count_done}
use Rattle.k_laws.proofs.Histories.{state_next}
use Rattle.k_tie.proofs.NameTests.{heap_eq-true, heap_eq_refl}
use Rattle.k_laws.proofs.OwnerOf.{owner_user, segment_of_shared}
use Rattle.k_tie.proofs.Sums.{sum_same}
use Rattle.k_laws.proofs.Merge.{merged}
use Rattle.k_laws.proofs.SoundAbsorbed.{is_merged as absorbed_owner}
use Rattle.k_laws.proofs.SoundExited.{is_merged as ended_owner}
use Rattle.k_laws.specs.Changes.{MayAbsorb, MayExit}
use Rattle.k_laws.specs.BookChanges.{charge_in, led_back, lost_with, registers_in}
use Rattle.k_laws.proofs.EndsOnBook.{end_on_book}
use Rattle.k_laws.proofs.OnBook.{count_done_on_book}
use Rattle.k_laws.proofs.TakenOnBook.{taken_on_book}
use Rattle.k_agree.specs.Agreement.{Shows, BookAgrees, BookShows}
use Rattle.k_agree.specs.GivingOnTheBook.{HasAbsorbed, HasEnded, charged, leading_into, new_to_kernel}
use Rattle.k_tie.specs.Values.{JournalValue}
use Rattle.k_agree.proofs.AtTheEnd.{book_sound}
use Rattle.k_agree.proofs.Swept.{among_kept}
use Rattle.k_tie.proofs.Lists.{none_is}
use Rattle.k_laws.proofs.Ending.{kill_event, may_end_other, exit_event}

-- a list over numbers of which one is given another value
map_above : {A : Type 0} (f g : ℕ → A) (first n k : ℕ) → k < first → ((q : ℕ) → q ≢ k → g q ≡ f q) → map g (numbers_from first n) ≡ map f (numbers_from first n)
map_above f g first zero k low same = refl
map_above f g first (suc n) k low same =
    ap₂ (λ x xs. x ∷ xs) (same first (λ e. absurd (omega (arith, e, low)))) (map_above f g (suc first) n k (omega (arith, low)) same)

map_one : {A : Type 0} (f g : ℕ → A) (first n k : ℕ) → ((q : ℕ) → q ≢ first + k → g q ≡ f q) → map g (numbers_from first n) ≡ set (map f (numbers_from first n)) k (g (first + k))
map_one f g first zero k same = refl
map_one f g first (suc n) zero same =
    ap₂ (λ x xs. x ∷ xs) (ap g (omega arith)) (map_above f g (suc first) n first (omega arith) (λ q ne. same q (λ e. ne (omega (arith, e)))))
map_one f g first (suc n) (suc k) same =
    ap₂ (λ x xs. x ∷ xs) (same first (λ e. absurd (omega (arith, e))))
    (map_one f g (suc first) n k (λ q ne. same q (λ e. ne (omega (arith, e)))) ∙ ap (λ at. set (map f (numbers_from (suc first) n)) k (g at)) (omega arith))

-- a heap other than the kernel owns the segment with which it began
owner_began : (trace : Trace) (st : State) (seg : ℕ) (g : Heap) → heap_eq Kernel g ≡ false → owner_of trace st seg ≡ g → segment_of trace g ≡ seg
unfolding owner_of_segment
owner_began trace st seg g apart = go (seg == 0) (nat_le seg (process_count trace)) (among (seg - 1) st.ended) (is_absorbed (phase_of st.phases (seg - 1 - process_count trace))) refl refl
  where
    never : Kernel ≡ g → ⊥
    never e = false≢true (sym apart ∙ ap (heap_eq Kernel) (sym e))

    go : (a b c d : Bool) → (seg == 0) ≡ a → nat_le seg (process_count trace) ≡ b →
        cond a Kernel (cond b (cond c Kernel (user (seg - 1))) (cond d Kernel (shared (seg - 1 - process_count trace)))) ≡ g → segment_of trace g ≡ seg
    go true b c d e f at = absurd (never at)
    go false true true d e f at = absurd (never at)
    go false true false d e f at = let ne = false-eqb seg 0 (sym e) in ap (segment_of trace) (sym at) ∙ (omega arith)
    go false false c true e f at = absurd (never at)
    go false false c false e f at =
        let ne = false-eqb seg 0 (sym e) in
        let high = leb-false seg (process_count trace) f in
        ap (segment_of trace) (sym at) ∙ (omega arith)

rehomed : (trace : Trace) (st su : State) (g : Heap) (before after : BookValue) → heap_eq Kernel g ≡ false → ((seg : ℕ) → owner_of trace su seg ≡ merged g (owner_of trace st seg)) →
    owner_of trace su (segment_of trace g) ≡ Kernel → BookShows trace st before → after.homes ≡ set before.homes (segment_of trace g) Kernel →
    after.homes ≡ map (owner_of trace su) (numbers_below (segment_count trace))
rehomed trace st su g before after apart is gone seen homes =
    homes
    ∙ ap (λ hs. set hs (segment_of trace g) Kernel) seen.homes
    ∙ ap (λ h. set (map (owner_of trace st) (numbers_below (segment_count trace))) (segment_of trace g) h) (sym (ap (owner_of trace su) here ∙ gone))
    ∙ sym (map_one (owner_of trace st) (owner_of trace su) 0 (segment_count trace) (segment_of trace g) (λ q ne. is q ∙ ap (λ b. cond b Kernel (owner_of trace st q)) (other q (λ e. ne (omega (arith, e))))))
  where
    here : 0 + segment_of trace g ≡ segment_of trace g
    here = omega arith

    other : (q : ℕ) → q ≢ segment_of trace g → heap_eq (owner_of trace st q) g ≡ false
    other q ne = false_from_ne_true _ (λ t. ne (sym (owner_began trace st q g apart (heap_eq-true (owner_of trace st q) g t))))

-- what the cells tell of the entries that change
module _ (trace : Trace) (st : State) (g : Heap) (heap kernel : CellValue) (shows : Shows trace st g heap) (kernel_shows : Shows trace st Kernel kernel) where
  heap_exit : (n : Name) → name_among n heap.exits ≡ (part trace st g).exits n
  heap_exit n = ap (λ (s : ShownPart). s.exits n) shows.part

  kernel_exit : (n : Name) → name_among n kernel.exits ≡ (part trace st Kernel).exits n
  kernel_exit n = ap (λ (s : ShownPart). s.exits n) kernel_shows.part

  led : (n : Name) → name_among n (leading_into (owner_of trace st) g kernel) ≡ led_back (owner_of trace st) g (part trace st Kernel) n
  led n =
      among_kept (λ m. heap_eq (owner_of trace st m.seg.0) g) kernel.exits n
      ∙ ap (λ b. b && heap_eq (owner_of trace st n.seg.0) g) (kernel_exit n)

  come : (n : Name) → name_among n (new_to_kernel (owner_of trace st) heap kernel) ≡ ((part trace st g).exits n && (is_shared_heap (owner_of trace st n.seg.0) && not ((part trace st Kernel).exits n)))
  come n =
      among_kept (λ m. is_shared_heap (owner_of trace st m.seg.0) && not (name_among m kernel.exits)) heap.exits n
      ∙ ap₂ (λ x y. x && (is_shared_heap (owner_of trace st n.seg.0) && not y)) (heap_exit n) (kernel_exit n)

module _ (trace : Trace) (st : State) (s : ℕ) (heap kernel : CellValue) (before drained after : BookValue) (sound : IsSound trace st) (may : MayAbsorb trace st s) (seen : BookShows trace st before)
    (shows : Shows trace st (shared s) heap) (kernel_shows : Shows trace st Kernel kernel) (absorbed : HasAbsorbed trace (owner_of trace st) s heap kernel before drained after) where
  entries_absorbed : (n : Name) → counted after.entries n
      ≡ ((book_part trace st).entries n - cond ((part trace st (shared s)).exits n) 1 0) - cond (led_back (owner_of trace st) (shared s) (part trace st Kernel) n) 1 0
  entries_absorbed n =
      let one = absorbed.left n in
      let two = absorbed.cut n in
      let was : counted before.entries n ≡ (book_part trace st).entries n = ap (λ (b : BookPart). b.entries n) seen.part in
      let mine : ◌≡◌ {A = ℕ} (cond (name_among n heap.exits) 1 0) (cond ((part trace st (shared s)).exits n) 1 0) = ap (λ b. cond b 1 0) (heap_exit trace st (shared s) heap kernel shows kernel_shows n) in
      let back : ◌≡◌ {A = ℕ} (cond (name_among n (leading_into (owner_of trace st) (shared s) kernel)) 1 0) (cond (led_back (owner_of trace st) (shared s) (part trace st Kernel) n) 1 0) = ap (λ b. cond b 1 0) (led trace st (shared s) heap kernel shows kernel_shows n) in
      omega (arith, one, two, was, mine, back)

  gone : owner_of trace (after_absorbed trace s st) (segment_of trace (shared s)) ≡ Kernel
  gone =
      absorbed_owner trace st s sound may (segment_of trace (shared s))
      ∙ ap (merged (shared s)) (segment_of_shared (process_count trace) st.ended st.phases s)
      ∙ go (is_absorbed (phase_of st.phases s))
    where
      go : (b : Bool) → merged (shared s) (cond b Kernel (shared s)) ≡ Kernel
      go true = refl
      go false = ap (λ b. cond b Kernel (shared s)) (heap_eq_refl (shared s))

  pub absorption_on_book : BookShows trace (after_absorbed trace s st) after
  absorption_on_book =
      let b = book_part trace st in
      record {
        part =
            ap book_shown_by absorbed.rest
            ∙ ap (λ (x : BookPart). record x { phases = after.phases; shared_bytes = after.shared_bytes; entries = counted after.entries }) seen.part
            ∙ ap₂ (λ phases bytes. record b { phases = phases; shared_bytes = bytes; entries = counted after.entries })
            (absorbed.phases ∙ ap (λ (x : BookPart). set x.phases s Absorbed) seen.part)
            (absorbed.bytes ∙ ap (λ (x : BookPart). set x.shared_bytes s 0) seen.part)
            ∙ ap (λ entries. record b { phases = set b.phases s Absorbed; shared_bytes = set b.shared_bytes s 0; entries = entries }) (fun_ext entries_absorbed)
            ∙ sym (taken_on_book trace st s sound may);
        homes = rehomed trace st (after_absorbed trace s st) (shared s) before after refl (absorbed_owner trace st s sound may) gone seen absorbed.homes;
      }

-- of the exit items that leave, those that are passed on enter again
left_and_came : (was drained without after : ℕ) (e k x : Bool) → drained + cond e 1 0 ≡ was → without + cond k 1 0 ≡ drained → after ≡ without + cond (e && x) 1 0 →
    after ≡ (was - cond (e && not x) 1 0) - cond k 1 0
left_and_came was drained without after false k x one two three = omega (arith, one, two, three)
left_and_came was drained without after true k true one two three = omega (arith, one, two, three)
left_and_came was drained without after true k false one two three = omega (arith, one, two, three)

and_true : (b : Bool) → b ≡ (b && true)
and_true true = refl
and_true false = refl

or_false : (b : Bool) → b ≡ (b || false)
or_false true = refl
or_false false = refl

pub charge_as_told : (trace : Trace) (st : State) (p : ℕ) (heap : CellValue) (book : BookValue) → BookShows trace st book → Shows trace st (user p) heap →
    charged trace book heap p ≡ charge_in trace (book_part trace st) (part trace st (user p)) p
charge_as_told trace st p heap book seen shows =
    ap₂ (λ x y. x + y)
    (ap (λ (s : ShownPart). total object_bytes s.objects) shows.part)
    (sum_same
    (λ t. cond (has_share book.shares p t) (get_or book.shared_bytes t 0) 0)
    (λ t. cond ((book_part trace st).shares p t && true) (get_or (book_part trace st).shared_bytes t 0) 0)
    (λ t. ap₂ (λ x bytes. cond x (get_or bytes t 0) 0)
    (ap (λ (x : BookPart). x.shares p t) seen.part ∙ and_true ((book_part trace st).shares p t))
    (ap (λ (x : BookPart). x.shared_bytes) seen.part))
    (numbers_below trace.shared_heaps))

module _ (trace : Trace) (limits : AreLimits trace) (st : State) (p : ℕ) (heap kernel : CellValue) (before drained without after : BookValue) (sound : IsSound trace st) (may : MayExit trace st p)
    (seen : BookShows trace st before) (shows : Shows trace st (user p) heap) (kernel_shows : Shows trace st Kernel kernel)
    (ended : HasEnded trace (owner_of trace st) p heap kernel before drained without after) where
  abbrev own : ℕ → Heap
  own = owner_of trace st

  abbrev b : BookPart
  b = book_part trace st

  abbrev c : CellPart
  c = part trace st (user p)

  abbrev k : CellPart
  k = part trace st Kernel

  entries_ended : (n : Name) → counted after.entries n ≡ (b.entries n - cond (lost_with own c k n) 1 0) - cond (led_back own (user p) k n) 1 0
  entries_ended n =
      left_and_came (b.entries n) (counted drained.entries n) (counted without.entries n) (counted after.entries n) (c.exits n) (led_back own (user p) k n)
      (is_shared_heap (own n.seg.0) && not (k.exits n))
      (ap (λ x. counted drained.entries n + cond x 1 0) (sym (heap_exit trace st (user p) heap kernel shows kernel_shows n)) ∙ ended.left n ∙ ap (λ (x : BookPart). x.entries n) seen.part)
      (ap (λ x. counted without.entries n + cond x 1 0) (sym (led trace st (user p) heap kernel shows kernel_shows n)) ∙ ended.cut n)
      (ended.passed n ∙ ap (λ x. counted without.entries n + cond x 1 0) (come trace st (user p) heap kernel shows kernel_shows n))

  process_seen : heap.process ≡ c.process
  process_seen = ap (λ (s : ShownPart). s.process) shows.part

  pins_ended : (n : Name) → counted after.pins n ≡ b.pins n - cond (heap_eq (user p) (own n.seg.0)) 0 (pins_of (registers_in c.process) n)
  pins_ended n =
      let all = ended.unpinned n in
      let was : counted before.pins n ≡ b.pins n = ap (λ (x : BookPart). x.pins n) seen.part in
      let held : ◌≡◌ {A = ℕ} (cond (heap_eq (user p) (own n.seg.0)) 0 (pins_of (registers_in heap.process) n)) (cond (heap_eq (user p) (own n.seg.0)) 0 (pins_of (registers_in c.process) n)) =
      ap (λ q. cond (heap_eq (user p) (own n.seg.0)) 0 (pins_of (registers_in q) n)) process_seen in
      omega (arith, all, was, held)

  shares_seen : (q t : ℕ) → has_share before.shares q t ≡ b.shares q t
  shares_seen q t = ap (λ (x : BookPart). x.shares q t) seen.part

  charge_seen : charged trace before heap p ≡ charge_in trace b c p
  charge_seen = charge_as_told trace st p heap before seen shows

  direct_ended : after.direct ≡ set b.direct (limit_of trace p) (get_or b.direct (limit_of trace p) 0 - charge_in trace b c p)
  direct_ended =
      ended.credited
      ∙ ap₂ (λ direct less. set direct (limit_of trace p) (get_or direct (limit_of trace p) 0 - less)) (ap (λ (x : BookPart). x.direct) seen.part) charge_seen

  shares_ended : (q t : ℕ) → has_share after.shares q t ≡ (b.shares q t && (not (q == p) || false))
  shares_ended q t = ended.shares q t ∙ ap₂ (λ x y. x && y) (shares_seen q t) (or_false (not (q == p)))

  ended_ended : (q : ℕ) → among q after.ended ≡ (b.ended q || (p == q))
  ended_ended q = ended.ended q ∙ ap (λ (x : BookPart). x.ended q || (p == q)) seen.part

  gone_home : owner_of trace (after_end_of trace p st) (segment_of trace (user p)) ≡ Kernel
  gone_home =
      ended_owner trace st p sound may (segment_of trace (user p))
      ∙ ap (merged (user p)) (owner_user trace st p may.known may.lives)
      ∙ ap (λ x. cond x Kernel (user p)) (heap_eq_refl (user p))

  abbrev with_all : (ℕ → Bool) → (ℕ → ℕ → Bool) → List ℕ → (Name → ℕ) → (Name → ℕ) → BookPart
  with_all over shares direct entries pins = record b { ended = over; shares = shares; direct = direct; entries = entries; pins = pins }

  pub end_on_the_book : BookShows trace (after_end_of trace p st) after
  end_on_the_book = record {
    part =
        ap book_shown_by ended.rest
        ∙ ap (λ (x : BookPart). record x { ended = λ q. among q after.ended; shares = has_share after.shares; direct = after.direct; entries = counted after.entries; pins = counted after.pins }) seen.part
        ∙ ap₂ (λ over shares. with_all over shares after.direct (counted after.entries) (counted after.pins)) (fun_ext ended_ended) (fun_ext (λ q. fun_ext (λ t. shares_ended q t)))
        ∙ ap₂ (λ direct entries. with_all (λ q. b.ended q || (p == q)) (λ q t. b.shares q t && (not (q == p) || false)) direct entries (counted after.pins)) direct_ended (fun_ext entries_ended)
        ∙ ap (λ pins. with_all (λ q. b.ended q || (p == q)) (λ q t. b.shares q t && (not (q == p) || false)) (set b.direct (limit_of trace p) (get_or b.direct (limit_of trace p) 0 - charge_in trace b c p))
        (λ n. (b.entries n - cond (lost_with own c k n) 1 0) - cond (led_back own (user p) k n) 1 0) pins) (fun_ext pins_ended)
        ∙ sym (end_on_book trace limits st p sound may);
    homes = rehomed trace st (after_end_of trace p st) (user p) before after refl (ended_owner trace st p sound may) gone_home seen ended.homes;
  }

-- over the events
pub absorbed_event : (trace : Trace) (st : State) (s : SharedId) → step trace st (AbsorbedEvent s) ≡ after_absorbed trace s.0 st
unfolding step
absorbed_event trace st s = refl

pub may_absorb : (trace : Trace) (st : State) (s : SharedId) → IsPossible trace st (AbsorbedEvent s) → MayAbsorb trace st s.0
may_absorb trace st s may = record {
  known = may.known;
  no_sharer = not-true _ (and_parts (is_live (phase_of st.phases s.0)) (not (has_sharer st.shares s.0)) may.orphan).1;
  idle = none_is _ may.idle;
}

pub may_exit : (trace : Trace) (st : State) (pid : Pid) (said : Reply) → IsPossible trace st (Done pid Exit said) → MayExit trace st pid.0
unfolding cells_touched other_cells
may_exit trace st pid said may =
    let both = and_parts (not (is_scanned st.scans (user pid.0))) (not (is_scanned st.scans Kernel) && true) may.idle in
    let last = and_parts (not (is_scanned st.scans Kernel)) true both.1 in
    record {
      known = may.known;
      lives = may.lives;
      idle = none_is _ (not-true _ both.0);
      kernel_idle = none_is _ (not-true _ last.0);
    }

pub counted_shows : (trace : Trace) (st : State) (p : ℕ) (value : BookValue) → BookShows trace st value → BookShows trace (count_done p st) value
unfolding count_done
counted_shows trace st p value seen = record {
  part = seen.part ∙ sym (count_done_on_book trace st p);
  homes = seen.homes;
}

pub absorption_in_journal : (trace : Trace) (journal : JournalValue) (s : SharedId) (heap kernel : CellValue) (before drained after : BookValue) → AreLimits trace → BookAgrees trace journal before →
    IsPossible trace (state_after trace journal.list) (AbsorbedEvent s) → Shows trace (state_after trace journal.list) (shared s.0) heap → Shows trace (state_after trace journal.list) Kernel kernel →
    HasAbsorbed trace (owner_of trace (state_after trace journal.list)) s.0 heap kernel before drained after → BookShows trace (state_after trace (journal.list ++ AbsorbedEvent s ∷ [])) after
absorption_in_journal trace journal s heap kernel before drained after limits agrees possible shows kernel_shows absorbed =
    let st = state_after trace journal.list in
    let sound = book_sound trace journal before limits agrees in
    subst (λ su. BookShows trace su after) (sym (state_next trace journal.list (AbsorbedEvent s) ∙ absorbed_event trace st s))
    (absorption_on_book trace st s.0 heap kernel before drained after sound (may_absorb trace st s possible) agrees.shows shows kernel_shows absorbed)

pub end_in_journal : (trace : Trace) (journal : JournalValue) (pid : Pid) (said : Reply) (heap kernel : CellValue) (before drained without after : BookValue) → AreLimits trace → BookAgrees trace journal before →
    IsPossible trace (state_after trace journal.list) (Done pid Exit said) → Shows trace (state_after trace journal.list) (user pid.0) heap → Shows trace (state_after trace journal.list) Kernel kernel →
    HasEnded trace (owner_of trace (state_after trace journal.list)) pid.0 heap kernel before drained without after → BookShows trace (state_after trace (journal.list ++ Done pid Exit said ∷ [])) after
end_in_journal trace journal pid said heap kernel before drained without after limits agrees possible shows kernel_shows ended =
    let st = state_after trace journal.list in
    let sound = book_sound trace journal before limits agrees in
    subst (λ su. BookShows trace su after) (sym (state_next trace journal.list (Done pid Exit said) ∙ exit_event trace st pid said))
    (counted_shows trace (after_end_of trace pid.0 st) pid.0 after
    (end_on_the_book trace limits st pid.0 heap kernel before drained without after sound (may_exit trace st pid said possible) agrees.shows shows kernel_shows ended))

pub killed_in_journal : (trace : Trace) (journal : JournalValue) (pid target : Pid) (said : Reply) (heap kernel : CellValue) (before drained without after : BookValue) → AreLimits trace → BookAgrees trace journal before →
    IsPossible trace (state_after trace journal.list) (Done pid (Kill target) said) → IsTrue (ends_other trace (state_after trace journal.list) pid.0 target.0) → Shows trace (state_after trace journal.list) (user target.0) heap → Shows trace (state_after trace journal.list) Kernel kernel →
    HasEnded trace (owner_of trace (state_after trace journal.list)) target.0 heap kernel before drained without after → BookShows trace (state_after trace (journal.list ++ Done pid (Kill target) said ∷ [])) after
killed_in_journal trace journal pid target said heap kernel before drained without after limits agrees possible ends shows kernel_shows ended =
    let st = state_after trace journal.list in
    let sound = book_sound trace journal before limits agrees in
    subst (λ su. BookShows trace su after) (sym (state_next trace journal.list (Done pid (Kill target) said) ∙ kill_event trace st pid target said ends))
    (counted_shows trace (after_end_of trace target.0 st) pid.0 after
    (end_on_the_book trace limits st target.0 heap kernel before drained without after sound (may_end_other trace st pid target said possible ends) agrees.shows shows kernel_shows ended))
