-- A process that ends, as its cell, the kernel's and the book show it before.
use Rattle.std.proofs.Common.{◌≡◌, ℕ, ◌+◌, ◌<◌, ◌≤◌, ◌^◌, ◌==◌, ◌&&◌, not, true, false, refl, sym, ap, ◌∙◌, List, [], ◌∷◌, length, get_or, replicate, arith, eq-eqb, ne_eqb, Option, IsTrue, IsFalse}
use Rattle.std.proofs.lemmas.Bool.{and_from, and_parts, false≢true, not-true}
use Rattle.k_types.specs.declared.names.Heap.{Heap}
use Rattle.k_types.specs.declared.names.Heap.TheVariants.{Kernel, Shared, User}
use Rattle.k_types.specs.declared.names.LimitId.{LimitId}
use Rattle.k_types.specs.declared.names.Name.{Name}
use Rattle.k_types.specs.declared.setup.LimitRow.{LimitRow}
use Rattle.k_types.proofs.Maxima.{length_in}
use Rattle.k_types.specs.Cells.{BookPart, ProcessPart, ShownPart, book_part, cells_touched, other_cells, part}
use Rattle.k_types.specs.Limits.{direct_by, limits_in, with_maxima}
use Rattle.k_types.specs.Names.{among, heap_eq, name_among}
use Rattle.k_types.specs.Owners.{charge_of, object_bytes, owner_of}
use Rattle.k_types.specs.Reach.{is_shared_heap}
use Rattle.k_types.specs.Replies.{answer, faults, first_fault, reply_to}
use Rattle.k_types.specs.Sound.{IsSound}
use Rattle.k_types.specs.State.{State, has_share, is_scanned}
use Rattle.k_types.specs.Steps.{IsPossible, in_range, state_after}
use Rattle.k_types.specs.Totals.{total}
use Rattle.k_types.specs.Trace.{Trace, limit_of, process_count, segment_count}
use Rattle.k_types.proofs.Lists.{none_is}
use Rattle.k_types.proofs.NameTests.{heap_eq_sym}
use Rattle.k_laws.specs.Changes.{MayExit}
use Rattle.k_laws.proofs.SoundSteps.{legal_sound}
use Rattle.k_agree.specs.Agreement.{BookShows, Shows}
use Rattle.k_agree.specs.Ending.{HasLeft}
use Rattle.k_agree.specs.GivingOnTheBook.{charged}
use Rattle.k_agree.proofs.HeldOnTheBook.{charge_there, left_there, pins_there}
use Rattle.k_agree.proofs.Openings.{home_at}
use Rattle.k_agree.proofs.Swept.{among_kept}
use Rattle.k_laws.specs.Counts.{one_if}
use Rattle.k_commit.specs.k_book.Books.{BookRecord}
use Rattle.k_commit.proofs.Fitting.{direct_low}
use Rattle.k_commit.specs.k_cell.Holdings.{HoldingsValue}
use Rattle.k_laws.specs.BookChanges.{registers_in}
use Rattle.k_commit.specs.Met.{Before}
use Rattle.k_commit.proofs.Setting.{process_known, process_lives}
use Rattle.k_commit.specs.k_heap.Heaps.{HeapRecord, holdings_of, own_segment}
use Rattle.k_commit.proofs.Idle.{unscanned}
use Rattle.k_own.specs.Charges.{bytes_shared, limit_in}
use Rattle.k_own.specs.Exiting.{HaveMetToExit, exit_of}
use Rattle.k_own.specs.Exits.{AreEntered, into_segment, is_passed}
use Rattle.k_own.specs.Registers.{ArePinned}
use Rattle.k_own.specs.Segments.{CanGive}
use Rattle.k_own.proofs.Leaving.{and_none}
use Rattle.k_own.proofs.HeapTold.{cell_bytes, exits_shown, home_count, other_made, owned_made, user_numbered}
use Rattle.k_own.proofs.Weighed.{objects_weigh}

module _ (trace : Trace) (c : HeapRecord) (k : HoldingsValue) (b : BookRecord) (met : HaveMetToExit trace c k b) where
  abbrev pub now : State
  now = state_after trace b.journal.list

  abbrev pub before : Before
  before = record { trace = trace; cell = c; book = b }

  pub sound : IsSound trace now
  sound = legal_sound trace b.journal.list met.have_met.own.book.keeps.limits met.have_met.own.book.agrees.legal

  pub shows : Shows trace now (User c.pid) c.value
  shows = met.have_met.own.after.shows

  pub kernel_shows : Shows trace now Kernel k.value
  kernel_shows = met.have_met.after.shows

  pub booked : BookShows trace now b.value
  booked = met.have_met.own.book.agrees.shows

  pub known : c.pid.0 < process_count trace
  known = process_known before met.have_met.own

  pub lives : IsFalse (among c.pid.0 now.ended)
  lives = process_lives before met.have_met.own

  pub possible : IsPossible trace now (exit_of c.pid)
  unfolding cells_touched other_cells in_range reply_to faults first_fault answer
  possible = record {
    known = known;
    lives = lives;
    in_range = refl;
    idle = and_from (not (is_scanned now.scans (User c.pid))) (not (is_scanned now.scans Kernel) && true)
        (unscanned trace now (User c.pid) c.value (record { shows = shows; idle = met.have_met.own.heap.idle }))
        (and_from (not (is_scanned now.scans Kernel)) true (unscanned trace now Kernel k.value (record { shows = kernel_shows; idle = met.have_met.other.idle })) refl);
    orphans = refl;
    replied = refl;
  }

  pub may : MayExit trace now c.pid.0
  may = record {
    known = known;
    lives = lives;
    idle = none_is _ (not-true _ (unscanned trace now (User c.pid) c.value (record { shows = shows; idle = met.have_met.own.heap.idle })));
    kernel_idle = none_is _ (not-true _ (unscanned trace now Kernel k.value (record { shows = kernel_shows; idle = met.have_met.other.idle })));
  }

  pub numbered : (j : ℕ) → heap_eq (owner_of trace now j) (User c.pid) ≡ (j == own_segment c.pid)
  numbered = user_numbered trace now c.pid.0 known lives

  pub small : c.pid.0 + 1 < 2 ^ 32
  small = let few = met.have_met.own.book.keeps.processes in omega (arith, known, few)

  process_is : c.value.process ≡ (part trace now (User c.pid)).process
  process_is = ap (λ (s : ShownPart). s.process) shows.part

  -- the registers
  pub sixteen : length (registers_in c.value.process) ≤ 16
  unfolding part
  sixteen =
      let same = ap (λ (p : Option ProcessPart). length (registers_in p)) process_is in
      let each = sound.shape.sized.each c.pid.0 known in
      omega (arith, same, each)

  pub pinned : ArePinned (own_segment c.pid) (registers_in c.value.process) b.value
  pinned n outside =
      pins_there trace now c.pid.0 c.value b.value n known booked shows
      (heap_eq_sym (User c.pid) (owner_of trace now n.seg.0) ∙ numbered n.seg.0 ∙ ne_eqb n.seg.0 (own_segment c.pid) outside)

  -- the charge
  pub limit_is : limit_in b c.pid.0 ≡ limit_of trace c.pid.0
  limit_is = ap (λ (procs : List LimitId). (get_or procs c.pid.0 (record { 0 = 0 })).0) met.have_met.own.book.of_trace.procs

  pub process_there : c.pid.0 < length b.procs
  process_there = let same = ap length met.have_met.own.book.of_trace.procs in omega (arith, same, known)

  limited : limit_of trace c.pid.0 < length trace.limits
  limited = met.have_met.own.book.keeps.limits.limited c.pid.0 known

  pub limit_there : limit_in b c.pid.0 < length b.rows
  limit_there =
      let same = ap length met.have_met.own.book.of_trace.rows ∙ length_in trace.limits (replicate (length trace.limits) 0) in
      let limit = limit_is in
      omega (arith, same, limit, limited)

  phases_are : length b.value.phases ≡ trace.shared_heaps
  unfolding book_part
  phases_are = ap (λ (x : BookPart). length x.phases) booked.part ∙ sound.shape.sized.phases

  pub shares_known : (t : ℕ) → IsTrue (has_share b.value.shares c.pid.0 t) → t < length b.value.phases
  unfolding book_part
  shares_known t there =
      let inside = sound.shape.known.shared c.pid.0 t (sym (ap (λ (x : BookPart). x.shares c.pid.0 t) booked.part) ∙ there) in
      let sized = phases_are in
      omega (arith, inside, sized)

  pub charge_is : total object_bytes c.value.objects + bytes_shared b.value c.pid.0 (length b.value.phases) ≡ charged trace b.value c.value c.pid.0
  charge_is = ap (λ heaps. total object_bytes c.value.objects + bytes_shared b.value c.pid.0 heaps) phases_are

  pub charge_fits : total object_bytes c.value.objects + bytes_shared b.value c.pid.0 (length b.value.phases) ≤ get_or b.value.direct (limit_in b c.pid.0) 0
  charge_fits =
      let there = charge_there trace now c.pid.0 c.value b.value met.have_met.own.book.keeps.limits sound may booked shows in
      let same = charge_is in
      let limit = ap (λ m. get_or b.value.direct m 0) limit_is in
      omega (arith, there, same, limit)

  pub direct_small : get_or b.value.direct (limit_in b c.pid.0) 0 < 2 ^ 64
  direct_small =
      let limit = ap (λ i. get_or b.value.direct i 0) limit_is in
      let low = direct_low trace b.journal.list b.value met.have_met.own.book.keeps.limits met.have_met.own.book.agrees.legal booked c.pid.0 known in
      omega (arith, limit, low)

  -- the exit items
  pub kernel_entered : AreEntered (into_segment (own_segment c.pid) k.value.exits) b.value
  kernel_entered n t =
      left_there trace now Kernel k.value b.value n booked kernel_shows
      (and_parts (name_among n k.value.exits) (n.seg.0 == own_segment c.pid) (sym (among_kept (λ m. m.seg.0 == own_segment c.pid) k.value.exits n) ∙ t)).0

  leaves : (n : Name) → name_among n c.value.exits ≡ true → (n.seg.0 == own_segment c.pid) ≡ false
  leaves n t =
      sym (numbered n.seg.0) ∙ heap_eq_sym (owner_of trace now n.seg.0) (User c.pid)
      ∙ sound.exits.leave (User c.pid) n (sym (exits_shown trace now (User c.pid) c.value shows n) ∙ t)

  pub heap_entered : (cut : BookRecord) → HasLeft (into_segment (own_segment c.pid) k.value.exits) b.value cut.value → AreEntered c.value.exits cut.value
  heap_entered cut left n t =
      let was = left n in
      let there = left_there trace now (User c.pid) c.value b.value n booked shows t in
      let none : ◌≡◌ {A = ℕ} (one_if (name_among n (into_segment (own_segment c.pid) k.value.exits))) 0 =
      ap one_if (among_kept (λ m. m.seg.0 == own_segment c.pid) k.value.exits n ∙ ap (λ u. name_among n k.value.exits && u) (leaves n t) ∙ and_none (name_among n k.value.exits)) in
      omega (arith, was, there, none)

  pub exit_placed : (n : Name) → name_among n c.value.exits ≡ true → n.seg.0 < segment_count trace
  exit_placed n t = (sound.shape.placed n (sound.no_dangling.exits (User c.pid) n (sym (exits_shown trace now (User c.pid) c.value shows n) ∙ t))).1

  pub exit_homed : (n : Name) → name_among n c.value.exits ≡ true → n.seg.0 < length b.value.homes
  exit_homed n t = let placed = exit_placed n t in let count = home_count trace now b.value booked in omega (arith, placed, count)

  pub passed_is : (n : Name) → name_among n c.value.exits ≡ true → is_passed b.value.homes n ≡ is_shared_heap (owner_of trace now n.seg.0)
  passed_is n t = ap is_shared_heap (home_at trace now b.value n.seg.0 booked (exit_placed n t))

  -- the segment
  owned : heap_eq (owner_of trace now (own_segment c.pid)) (User c.pid) ≡ true
  owned = numbered (own_segment c.pid) ∙ eq-eqb (own_segment c.pid) (own_segment c.pid) refl

  not_kernels : heap_eq (owner_of trace now (own_segment c.pid)) Kernel ≡ false
  not_kernels = not_kernel (owner_of trace now (own_segment c.pid)) owned
    where
      not_kernel : (h : Heap) → heap_eq h (User c.pid) ≡ true → heap_eq h Kernel ≡ false
      not_kernel Kernel t = absurd (false≢true t)
      not_kernel (User p) t = refl
      not_kernel (Shared u) t = absurd (false≢true t)

  inside : own_segment c.pid < segment_count trace
  inside = let there = known in omega (arith, there)

  bytes : total object_bytes c.value.objects + total object_bytes k.value.objects < 2 ^ 64
  bytes =
      let own = cell_bytes trace now (User c.pid) c.value shows in
      let kernels = cell_bytes trace now Kernel k.value kernel_shows in
      let all = objects_weigh trace b.journal.list met.have_met.own.book.keeps met.have_met.own.book.agrees.legal in
      let room = met.room.events in
      let few = met.have_met.own.few in
      omega (arith, own, kernels, all, room, few)

  pub can_give : (xs ys zs us : List Name) →
      CanGive (own_segment c.pid) (holdings_of (record c { value = record c.value { exits = xs; black_exits = ys } })) (record k { value = record k.value { exits = zs; black_exits = us } })
  can_give xs ys zs us = record {
    there = owned_made trace now (User c.pid) c.value shows (own_segment c.pid) owned;
    alone = λ j other. other_made trace now (User c.pid) c.value shows j (numbered j ∙ ne_eqb j (own_segment c.pid) other);
    new = other_made trace now Kernel k.value kernel_shows (own_segment c.pid) not_kernels;
    number = let numbers = met.numbers in omega (arith, numbers, inside);
    idle = met.have_met.own.heap.idle;
    kernel_idle = met.have_met.other.idle;
    bytes = bytes;
  }

  pub home_there : own_segment c.pid < length b.value.homes
  home_there = let count = home_count trace now b.value booked in omega (arith, count, inside)

  pub lives_on_book : IsFalse (among c.pid.0 b.value.ended)
  unfolding book_part
  lives_on_book = ap (λ (x : BookPart). x.ended c.pid.0) booked.part ∙ lives
