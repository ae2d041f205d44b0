-- What an event makes of the parts of the cells, as a function of the parts that the cells and the book had. The book tells who
-- owns what, the process's own cell what its registers hold, and the reply what an operation was answered.
use Rattle.std.specs.Prelude.{ℕ, Option, Some, None, if◌then◌else◌}
use Rattle.k_types.specs.declared.names.Name.{Name}
use Rattle.k_types.specs.declared.names.TypeId.{TypeId}
use Rattle.k_types.specs.declared.names.Heap.{Heap}
use Rattle.k_types.specs.declared.names.Heap.TheVariants.{Kernel, Shared, User}
use Rattle.k_types.specs.declared.names.Phase.TheVariants.{Populating, Frozen}
use Rattle.k_types.specs.declared.op.Op.{Op}
use Rattle.k_types.specs.declared.op.Op.TheVariants.{New, KNew, SNew, Store, Load, Move, Clear, Dir, Put, Get, Collect, KCollect, Share, Freeze, Attach, Exit, Kill, Resize}
use Rattle.k_types.specs.declared.event.Event.{Event}
use Rattle.k_types.specs.declared.event.Event.TheVariants.{Done as DoneEvent, Ended, Absorbed, Closing}
use Rattle.k_types.specs.declared.event.Reply.{Reply}
use Rattle.k_types.specs.declared.event.Reply.TheVariants.{Done, Made, Loaded, Value, Refused}
use Rattle.k_types.specs.Names.{heap_eq}
use Rattle.k_types.specs.Trace.{Trace, kinds_of, segment_of}
use Rattle.k_types.specs.State.{Refers, Holds}
use Rattle.k_types.specs.Owners.{user, shared}
use Rattle.k_types.specs.Cells.{Cell, CellPart, BookPart}
use Rattle.k_laws.specs.PartUpdates.{held_in, with_done, with_register, with_written}
use Rattle.k_laws.specs.CellChanges.{with_created, with_exit_to, with_scan, in_phase, collected, at_its_end, when_absorbed, taking_in}
use Rattle.k_laws.specs.BookChanges.{owner_in}
use Rattle.k_laws.specs.Roots.{roots_in}
use Rattle.k_laws.specs.Touches.{ends_other_in}

-- the parts of all cells, of which that of the one is changed
abbrev pub at_cell : Cell → (CellPart → CellPart) → (Cell → CellPart) → Cell → CellPart
at_cell h change parts c = if heap_eq h c then change (parts c) else parts c

-- what the register of the process holds, by its cell
abbrev pub register_in : (Cell → CellPart) → ℕ → ℕ → Option Name
register_in parts p r = held_in (parts (user p)).process r

-- the reference that the reply gives; none where it gives none
abbrev pub reference_given : Reply → Option Name
reference_given Done = None
reference_given (Made n) = Some n
reference_given (Loaded v) = v
reference_given (Value number) = None
reference_given (Refused fault) = None

-- the first, unless the operation was refused
abbrev pub unless_refused : {A : Type 0} → Reply → A → A → A
unless_refused Done after before = after
unless_refused (Made n) after before = after
unless_refused (Loaded v) after before = after
unless_refused (Value number) after before = after
unless_refused (Refused fault) after before = before

-- the register of the process holds the reference
abbrev pub cells_with_register : ℕ → ℕ → Option Name → (Cell → CellPart) → Cell → CellPart
cells_with_register p r v parts = at_cell (user p) (with_register r v) parts

-- the heap's own segment has one more object
abbrev pub cells_with_new : Trace → Heap → TypeId → (Cell → CellPart) → Cell → CellPart
cells_with_new trace h ty parts = at_cell h (with_created (segment_of trace h) ty (kinds_of trace ty)) parts

-- the cell of the object that refers to the value has the exit item, where the owners differ
abbrev pub with_exit_for : (ℕ → Heap) → Name → Option Name → CellPart → CellPart
with_exit_for own x None c = c
with_exit_for own x (Some y) c = if heap_eq (own x.seg.0) (own y.seg.0) then c else with_exit_to y c

-- the field of the object refers to the value, and its cell has the exit item
abbrev pub cells_stored : (ℕ → Heap) → Option Name → ℕ → Option Name → (Cell → CellPart) → Cell → CellPart
cells_stored own None i value parts = parts
cells_stored own (Some x) i value parts =
    at_cell (own x.seg.0) (with_written x i (Refers value)) (at_cell (own x.seg.0) (with_exit_for own x value) parts)

-- the field of the object holds the number
abbrev pub cells_put : (ℕ → Heap) → Option Name → ℕ → ℕ → (Cell → CellPart) → Cell → CellPart
cells_put own None i number parts = parts
cells_put own (Some x) i number parts = at_cell (own x.seg.0) (with_written x i (Holds number)) parts

-- the shared heap is frozen with that root
abbrev pub cells_frozen : Heap → Option Name → (Cell → CellPart) → Cell → CellPart
cells_frozen h None parts = parts
cells_frozen h (Some root) parts = at_cell h (in_phase (Frozen root)) parts

-- a collection of the heap is open, from the roots that its cell and the book tell
abbrev pub cells_scanned : BookPart → Heap → (Cell → CellPart) → Cell → CellPart
cells_scanned book h parts = at_cell h (with_scan (roots_in h book (parts h))) parts

-- the cell gives all that it has away, as its own change says, and the kernel takes it in
abbrev pub cells_given : (ℕ → Heap) → Heap → (CellPart → CellPart) → (Cell → CellPart) → Cell → CellPart
cells_given own h change parts = at_cell h change (at_cell Kernel (taking_in own h (parts h)) parts)

-- the parts after an operation of the process that isn't refused, but for the count of operations done
unfoldable pub cells_operated : Trace → BookPart → (Cell → CellPart) → ℕ → Op → Reply → Cell → CellPart
cells_operated trace book parts p (New r ty) said = cells_with_register p r.0 (reference_given said) (cells_with_new trace (user p) ty parts)
cells_operated trace book parts p (KNew r ty) said = cells_with_register p r.0 (reference_given said) (cells_with_new trace Kernel ty parts)
cells_operated trace book parts p (SNew r s ty) said = cells_with_register p r.0 (reference_given said) (cells_with_new trace (Shared s) ty parts)
cells_operated trace book parts p (Store base i value) said = cells_stored (owner_in trace book) (register_in parts p base.0) i (register_in parts p value.0) parts
cells_operated trace book parts p (Load r base i) said = cells_with_register p r.0 (reference_given said) parts
cells_operated trace book parts p (Move r from) said = cells_with_register p r.0 (register_in parts p from.0) parts
cells_operated trace book parts p (Clear r) said = cells_with_register p r.0 None parts
cells_operated trace book parts p (Dir r) said = cells_with_register p r.0 (reference_given said) parts
cells_operated trace book parts p (Put base i number) said = cells_put (owner_in trace book) (register_in parts p base.0) i number parts
cells_operated trace book parts p (Get base i) said = parts
cells_operated trace book parts p Collect said = cells_scanned book (user p) parts
cells_operated trace book parts p KCollect said = cells_scanned book Kernel parts
cells_operated trace book parts p (Share s) said = at_cell (Shared s) (in_phase (Populating (record { 0 = p }))) parts
cells_operated trace book parts p (Freeze s root) said = cells_frozen (Shared s) (register_in parts p root.0) parts
cells_operated trace book parts p (Attach r s) said = cells_with_register p r.0 (reference_given said) parts
cells_operated trace book parts p Exit said = cells_given (owner_in trace book) (user p) at_its_end parts
cells_operated trace book parts p (Kill q) said = if ends_other_in trace book p q.0 then cells_given (owner_in trace book) (User q) at_its_end parts else parts
cells_operated trace book parts p (Resize m max) said = parts

-- the part of a cell after an event. An operation counts as done in its process's cell, and has its effect unless it is refused
unfoldable pub cell_after : Trace → BookPart → (Cell → CellPart) → Event → Cell → CellPart
cell_after trace book parts (DoneEvent pid op said) =
    at_cell (user pid.0) with_done (unless_refused said (cells_operated trace book parts pid.0 op said) parts)
cell_after trace book parts (Ended h objects bytes exits shares) = at_cell h collected parts
cell_after trace book parts (Absorbed s) = cells_given (owner_in trace book) (shared s.0) when_absorbed parts
cell_after trace book parts Closing = cells_scanned book Kernel parts
