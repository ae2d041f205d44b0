-- What a cell and the book tell of the object of an access.
use Rattle.std.proofs.Common.{◌≡◌, ◌++◌, ◌<◌, ℕ, sym, ap, subst, ◌∙◌, ◌∷◌, length, Option, Some, arith, nat_lt}
use Rattle.std.proofs.lemmas.Bool.{and_parts, ltb-true}
use Rattle.std.proofs.lemmas.List.{length-map}
use Rattle.k_types.specs.declared.event.Event.TheVariants.{Done}
use Rattle.k_types.specs.declared.event.Reply.{Reply}
use Rattle.k_types.specs.declared.names.Heap.{Heap}
use Rattle.k_types.specs.declared.names.Heap.TheVariants.{User}
use Rattle.k_types.specs.declared.names.Name.{Name}
use Rattle.k_types.specs.declared.names.Pid.{Pid}
use Rattle.k_types.specs.declared.names.Reg.{Reg}
use Rattle.k_types.specs.declared.op.Op.{Op}
use Rattle.k_types.specs.declared.op.Op.TheVariants.{Get, Kill, Load, Put, Store}
use Rattle.k_types.specs.Agree.{book_shown_by}
use Rattle.k_types.specs.Cells.{BookPart, CellPart, ProcessPart, ShownPart, book_part, cells_touched, part}
use Rattle.k_types.specs.Numbers.{numbers_below}
use Rattle.k_types.specs.Owners.{owner_of}
use Rattle.k_types.specs.State.{State}
use Rattle.k_types.specs.Steps.{in_range, state_after}
use Rattle.k_types.specs.Trace.{IsHeap, Trace, process_count, segment_count}
use Rattle.k_types.proofs.Lists.{numbers_length}
use Rattle.k_laws.proofs.Sizes.{history_sized}
use Rattle.k_laws.specs.PartUpdates.{held_in}
use Rattle.k_laws.proofs.SoundSteps.{legal_sound}
use Rattle.k_agree.proofs.Openings.{home_at}
use Rattle.k_commit.specs.k_book.Books.{BookRecord}
use Rattle.k_laws.specs.BookChanges.{owner_in}
use Rattle.k_laws.proofs.ChangesLaws.{the_book_tells_the_owners}
use Rattle.k_laws.proofs.ToldBy.{register_told}
use Rattle.k_entry.specs.Entries.{home_of}
use Rattle.k_commit.specs.k_heap.Heaps.{HeapRecord}
use Rattle.k_commit.specs.k_agree.Shown.{idle_part}
use Rattle.k_commit.proofs.Idle.{part_shown}
use Rattle.k_laws.proofs.SquaresLaws.{touched_cells_are_told}
use Rattle.k_laws.specs.Touches.{other_cells_in}
use Rattle.k_commit.specs.Met.{Before, HaveMet}
use Rattle.k_commit.proofs.Placed.{register_is_placed}
use Rattle.k_own.specs.Reaching.{CanReach, CanReachEnd, CanReachOwner, CanReachThrough}
use Rattle.k_types.proofs.Owners.{owner_known}

module _ (trace : Trace) (c : HeapRecord) (b : BookRecord) (r : ℕ) (can : CanReachThrough trace c b r) where
  -- the state that the cell shows, and that of the book
  abbrev seen : State
  seen = state_after trace (c.note.list ++ c.value.tail)

  abbrev now : State
  now = state_after trace b.journal.list

  process_is : c.value.process ≡ (part trace seen (User c.pid)).process
  process_is = ap (λ (s : ShownPart). s.process) can.agrees.shows.part

  held_placed : (n : Name) → held_in c.value.process r ≡ Some n → n.seg.0 < segment_count trace
  held_placed n held =
      register_is_placed trace seen (legal_sound trace (c.note.list ++ c.value.tail) can.book_stands.keeps.limits can.agrees.legal) c.pid.0 r n
      (sym (register_told trace seen c.pid.0 r) ∙ ap (λ (p : Option ProcessPart). held_in p r) (sym process_is) ∙ held)

  pub held_at_home : (n : Name) → held_in c.value.process r ≡ Some n → n.seg.0 < length b.value.homes
  held_at_home n held =
      let homes = ap length can.book_stands.agrees.shows.homes ∙ length-map (numbers_below (segment_count trace)) (owner_of trace now) ∙ numbers_length 0 (segment_count trace) in
      omega (arith, held_placed n held, homes)

  module _ (n : Name) (held : held_in c.value.process r ≡ Some n) (h : Heap) (is : h ≡ home_of b.value.homes n.seg.0) where
    owner_now : h ≡ owner_of trace now n.seg.0
    owner_now = is ∙ home_at trace now b.value n.seg.0 can.book_stands.agrees.shows (held_placed n held)

    pub owner_shown : h ≡ owner_in trace (book_shown_by b.value) n.seg.0
    owner_shown =
        owner_now ∙ ap (λ (own : ℕ → Heap). own n.seg.0) (sym (the_book_tells_the_owners trace now))
        ∙ ap (λ (k : BookPart). owner_in trace k n.seg.0) (sym can.book_stands.agrees.shows.part)

    phases_are : length b.value.phases ≡ trace.shared_heaps
    unfolding book_part
    phases_are = ap (λ (k : BookPart). length k.phases) can.book_stands.agrees.shows.part ∙ (history_sized trace b.journal.list).phases

    pub reaches_owner : CanReachOwner b c.pid.0 h
    reaches_owner = record {
      process = let known = can.agrees.there in let procs = ap length can.book_stands.of_trace.procs in omega (arith, known, procs);
      heap = λ s shared.
          let known : s.0 < trace.shared_heaps = subst (IsHeap trace) (sym owner_now ∙ shared) (owner_known trace now n.seg.0 (held_placed n held)) in
          let phases = phases_are in
          omega (arith, known, phases);
    }

-- the register of an access is there
module _ (trace : Trace) (c : HeapRecord) (b : BookRecord) where
  pub store_through : (base : Reg) (i : ℕ) (value : Reg) → CanReach trace c b (Store base i value) → CanReachThrough trace c b base.0
  unfolding in_range
  store_through base i value can = record { book_stands = can.book_stands; agrees = can.agrees; register = ltb-true base.0 16 (and_parts (nat_lt base.0 16) (nat_lt value.0 16) can.in_range).0 }

  pub load_through : (r base : Reg) (i : ℕ) → CanReach trace c b (Load r base i) → CanReachThrough trace c b base.0
  unfolding in_range
  load_through r base i can = record { book_stands = can.book_stands; agrees = can.agrees; register = ltb-true base.0 16 (and_parts (nat_lt r.0 16) (nat_lt base.0 16) can.in_range).1 }

  pub put_through : (base : Reg) (i number : ℕ) → CanReach trace c b (Put base i number) → CanReachThrough trace c b base.0
  unfolding in_range
  put_through base i number can = record { book_stands = can.book_stands; agrees = can.agrees; register = ltb-true base.0 16 can.in_range }

  pub get_through : (base : Reg) (i : ℕ) → CanReach trace c b (Get base i) → CanReachThrough trace c b base.0
  unfolding in_range
  get_through base i can = record { book_stands = can.book_stands; agrees = can.agrees; register = ltb-true base.0 16 can.in_range }

  pub kill_reaches : (q : Pid) → CanReach trace c b (Kill q) → CanReachEnd trace b c.pid.0 q.0
  unfolding in_range
  kill_reaches q can = record { book_stands = can.book_stands; process = can.agrees.there; target = ltb-true q.0 (process_count trace) can.in_range }

-- the values of a cell that has met the journal, and of the book, tell the touched cells
pub reached_is_touched : (before : Before) → HaveMet before → (op : Op) (said : Reply) →
    cells_touched before.trace (state_after before.trace before.book.journal.list) (Done before.cell.pid op said)
    ≡ User before.cell.pid ∷ other_cells_in before.trace (book_shown_by before.book.value) (idle_part before.cell.value) before.cell.pid.0 op
reached_is_touched before m op said =
    let st = state_after before.trace before.book.journal.list in
    touched_cells_are_told before.trace st (Done before.cell.pid op said)
    ∙ ap (λ (b : BookPart). User before.cell.pid ∷ other_cells_in before.trace b (part before.trace st (User before.cell.pid)) before.cell.pid.0 op) (sym m.book.agrees.shows.part)
    ∙ ap (λ (v : CellPart). User before.cell.pid ∷ other_cells_in before.trace (book_shown_by before.book.value) v before.cell.pid.0 op)
    (sym (part_shown before.trace st (User before.cell.pid) before.cell.value (record { shows = m.after.shows; idle = m.heap.idle })))
