-- Operations that are due: what their functions may read, set and commit.
use Rattle.std.proofs.Common.{◌≡◌, ◌<◌, ◌&&◌, ℕ, refl, sym, ap, subst, ◌∙◌, Option, Some, IsTrue, IsFalse, nat_lt}
use Rattle.std.proofs.lemmas.Bool.{and_parts, ltb-true}
use Rattle.k_types.specs.declared.event.Reply.{Reply}
use Rattle.k_types.specs.declared.names.Name.{Name}
use Rattle.k_types.specs.declared.names.Reg.{Reg}
use Rattle.k_types.specs.declared.op.Op.{Op}
use Rattle.k_types.specs.declared.names.Heap.TheVariants.{User}
use Rattle.k_types.specs.declared.op.Op.TheVariants.{Store, Load, Move, Clear, Dir, KCollect}
use Rattle.k_types.specs.Agree.{book_shown_by}
use Rattle.k_types.specs.Cells.{BookPart, CellPart}
use Rattle.k_types.specs.Steps.{in_range, waits_for_orphans}
use Rattle.k_types.specs.Trace.{Trace, segment_count}
use Rattle.k_commit.specs.k_book.Books.{BookRecord}
use Rattle.k_laws.specs.BookChanges.{owner_in, with_pin_moved}
use Rattle.k_laws.specs.PartUpdates.{held_in, with_done, with_register}
use Rattle.k_agree.specs.Meeting.{met_note}
use Rattle.k_commit.specs.k_heap.Heaps.{HeapRecord, holdings_of, own_segment}
use Rattle.k_commit.specs.k_agree.Moves.{GivesAlone}
use Rattle.k_commit.specs.k_agree.Shown.{idle_part}
use Rattle.k_laws.specs.Touches.{other_cells_in}
use Rattle.k_commit.specs.Changed.{CanSetRegister, ChangesValues, HasChanged, HasSetRegister, MayCommit, bodies_after}
use Rattle.k_commit.specs.Met.{Before, CanMeet, HaveMet, HeapHasMet}
use Rattle.k_commit.specs.Rooms.{HasEventRoom, HasRoomFor}
use Rattle.k_commit.proofs.Changing.{values_kept, values_set}
use Rattle.k_commit.proofs.Meetings.{heap_has_met, room_noted}
use Rattle.k_commit.proofs.Placed.{held_is_placed}
use Rattle.k_own.specs.Own.{CanStepOwn, IsDue, IsOwn}

-- a register is set last, and then the operation is committed
pub set_last : (before : Before) (op : Op) (said : Reply) (c w : HeapRecord) (b k : BookRecord) (r : ℕ) (value : Option Name) →
    HaveMet before → MayCommit before op → ChangesValues before c b op → HasSetRegister before c w b k r value →
    GivesAlone before.trace before.cell.pid op said (idle_part before.cell.value) (with_done (with_register r value (idle_part c.value)))
    (book_shown_by before.book.value)
    (with_pin_moved (owner_in before.trace (book_shown_by before.book.value)) before.cell.pid.0 (held_in before.cell.value.process r) value (book_shown_by b.value)) →
    HasChanged before w k op said
set_last before op said c w b k r value m may v s gives = record {
  have_met = m;
  may = may;
  values = values_set before op c w b k r value v s;
  gives =
      subst (λ (x : CellPart). GivesAlone before.trace before.cell.pid op said (idle_part before.cell.value) (with_done x) (book_shown_by before.book.value) (book_shown_by k.value))
      (sym (ap (λ (x : HeapRecord). idle_part x.value) s.cell_is))
      (subst (λ (x : BookPart). GivesAlone before.trace before.cell.pid op said (idle_part before.cell.value) (with_done (with_register r value (idle_part c.value))) (book_shown_by before.book.value) x)
      (sym s.moved) gives);
}

module _ (before : Before) (c : HeapRecord) (b : BookRecord) (op : Op) (due : IsDue before c b op) where
  pub can_set : (r : ℕ) (value : Option Name) → r < 16 → ((n : Name) → value ≡ Some n → n.seg.0 < segment_count before.trace) → CanSetRegister before c b r value
  can_set r value small there = record {
    have_met = due.have_met;
    pid = ap (λ (w : HeapRecord). w.pid) due.cell_is;
    process = ap (λ (w : HeapRecord). w.value.process) due.cell_is;
    pins = ap (λ (k : BookRecord). k.value.pins) due.book_is;
    pin_room = ap (λ (k : BookRecord). k.pin_room) due.book_is;
    owners = record {
      homes = ap (λ (k : BookRecord). k.value.homes) due.book_is;
      owners = ap (λ (k : BookRecord). owner_in before.trace (book_shown_by k.value)) due.book_is;
    };
    register = small;
    there = there;
  }

  -- what a register held, it held when the cell met
  pub held_before : (r : ℕ) → held_in c.value.process r ≡ held_in before.cell.value.process r
  held_before r = ap (λ (w : HeapRecord). held_in w.value.process r) due.cell_is

  pub held_there : (r : ℕ) (n : Name) → held_in c.value.process r ≡ Some n → n.seg.0 < segment_count before.trace
  held_there r n is = held_is_placed before due.have_met r n (sym (held_before r) ∙ is)

  pub due_values : bodies_after op before.cell.bodies ≡ before.cell.bodies → ChangesValues before c b op
  due_values bodies = values_kept before op c b due.have_met due.cell_is due.book_is bodies

  -- an operation that sets a register and does nothing else
  pub set_alone : bodies_after op before.cell.bodies ≡ before.cell.bodies → (w : HeapRecord) (k : BookRecord) (r : ℕ) (value : Option Name) (said : Reply) → HasSetRegister before c w b k r value →
      GivesAlone before.trace before.cell.pid op said (idle_part before.cell.value) (with_done (with_register r value (idle_part before.cell.value)))
      (book_shown_by before.book.value)
      (with_pin_moved (owner_in before.trace (book_shown_by before.book.value)) before.cell.pid.0 (held_in before.cell.value.process r) value (book_shown_by before.book.value)) →
      HasChanged before w k op said
  set_alone bodies w k r value said s gives =
      set_last before op said c w b k r value due.have_met due.may (due_values bodies) s
      (subst (λ (x : HeapRecord). GivesAlone before.trace before.cell.pid op said (idle_part before.cell.value) (with_done (with_register r value (idle_part x.value)))
      (book_shown_by before.book.value)
      (with_pin_moved (owner_in before.trace (book_shown_by before.book.value)) before.cell.pid.0 (held_in before.cell.value.process r) value (book_shown_by b.value))) (sym due.cell_is)
      (subst (λ (x : BookRecord). GivesAlone before.trace before.cell.pid op said (idle_part before.cell.value) (with_done (with_register r value (idle_part before.cell.value)))
      (book_shown_by before.book.value)
      (with_pin_moved (owner_in before.trace (book_shown_by before.book.value)) before.cell.pid.0 (held_in before.cell.value.process r) value (book_shown_by x.value))) (sym due.book_is)
      gives))

-- the registers that an operation names are there
module _ (before : Before) where
  two_below : (r s : Reg) → IsTrue (nat_lt r.0 16 && nat_lt s.0 16) → (r.0 < 16) × (s.0 < 16)
  two_below r s both = let parts = and_parts (nat_lt r.0 16) (nat_lt s.0 16) both in (ltb-true r.0 16 parts.0, ltb-true s.0 16 parts.1)

  pub move_below : (r from : Reg) → MayCommit before (Move r from) → (r.0 < 16) × (from.0 < 16)
  unfolding in_range
  move_below r from may = two_below r from may.in_range

  pub clear_below : (r : Reg) → MayCommit before (Clear r) → r.0 < 16
  unfolding in_range
  clear_below r may = ltb-true r.0 16 may.in_range

  pub dir_below : (r : Reg) → MayCommit before (Dir r) → r.0 < 16
  unfolding in_range
  dir_below r may = ltb-true r.0 16 may.in_range

  pub store_below : (base : Reg) (i : ℕ) (value : Reg) → MayCommit before (Store base i value) → (base.0 < 16) × (value.0 < 16)
  unfolding in_range
  store_below base i value may = two_below base value may.in_range

  pub load_below : (r base : Reg) (i : ℕ) → MayCommit before (Load r base i) → (r.0 < 16) × (base.0 < 16)
  unfolding in_range
  load_below r base i may = two_below r base may.in_range

-- an operation that touches no other cell waits for no orphan
not_waiting : (trace : Trace) (c : HeapRecord) (b : BookRecord) (op : Op) → IsOwn trace c b op → IsFalse (waits_for_orphans op)
unfolding other_cells_in
not_waiting trace c b KCollect own = absurd (cc own.alone)
not_waiting trace c b _ own = refl

-- the operation that can be done is due once the cell has met the journal
module _ (trace : Trace) (c : HeapRecord) (b : BookRecord) (op : Op) (can : CanStepOwn trace c b op) where
  pub can_meet : CanMeet trace (User c.pid) c.note c.value b
  can_meet = record { agrees = can.can.heap_stands.agrees; book_agrees = can.can.book_stands.agrees; table = can.can.heap_stands.table }

  pub is_due : (cell : HeapRecord) (book : BookRecord) → HeapHasMet trace c cell b book → IsDue (record { trace = trace; cell = cell; book = book }) cell book op
  is_due cell book met =
      let room = can.can.room met.told.fits in
      let own = can.own met.told.fits in
      record {
        cell_is = refl;
        book_is = refl;
        have_met = heap_has_met trace c cell b book met can.can.book_stands can.can.heap_stands;
        may = record {
          in_range = can.can.in_range;
          waits = not_waiting trace c b op own;
          room = subst (λ (k : BookRecord). HasEventRoom k) (sym met.book_is) room.events;
        };
        tables =
            (subst (λ (k : BookRecord). HasRoomFor trace cell.bodies (holdings_of cell) (own_segment cell.pid) k op) (sym met.book_is)
            (subst (λ (w : HeapRecord). HasRoomFor trace w.bodies (holdings_of w) (own_segment w.pid) b op) (sym met.cell_is)
            (room_noted trace c.bodies (holdings_of c) (met_note b.journal c.note) (own_segment c.pid) b op room))).tables;
        own =
            subst (λ (k : BookRecord). IsOwn trace cell k op) (sym met.book_is)
            (subst (λ (w : HeapRecord). IsOwn trace w b op) (sym met.cell_is)
            (record { alone = own.alone; not_local = own.not_local; no_collection = own.no_collection }));
      }
