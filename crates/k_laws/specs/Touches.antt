-- Which cells an event touches, by the book's part and for an operation by the part of its process's own cell.
use Rattle.std.specs.Prelude.{ℕ, List, [], ◌∷◌, Option, Some, None, if◌then◌else◌, Bool, not, ◌&&◌}
use Rattle.k_types.specs.declared.names.Name.{Name}
use Rattle.k_types.specs.declared.names.Pid.{Pid}
use Rattle.k_types.specs.declared.names.Heap.{Heap}
use Rattle.k_types.specs.declared.names.Heap.TheVariants.{Kernel, User, Shared}
use Rattle.k_types.specs.declared.op.Op.{Op}
use Rattle.k_types.specs.declared.op.Op.TheVariants.{New, KNew, SNew, Store, Load, Move, Clear, Dir, Put, Get, Collect, KCollect, Share, Freeze, Attach, Exit, Kill, Resize}
use Rattle.k_types.specs.declared.event.Event.{Event}
use Rattle.k_types.specs.declared.event.Event.TheVariants.{Done as DoneEvent, Ended, Absorbed, Closing}
use Rattle.k_types.specs.Trace.{Trace}
use Rattle.k_types.specs.Cells.{Cell, CellPart, BookPart}
use Rattle.k_laws.specs.PartUpdates.{held_in}
use Rattle.k_laws.specs.BookChanges.{owner_in}
use Rattle.k_types.specs.Limits.{is_above}

-- the cell beside the process's own that an access to an object of the heap touches
abbrev pub base_cell_in : BookPart → ℕ → Heap → List Cell
base_cell_in book p Kernel = Kernel ∷ []
base_cell_in book p (User q) = []
base_cell_in book p (Shared s) = if book.shares p s.0 then Shared s ∷ [] else []

-- the same for an access through what a register holds
abbrev pub access_cell_in : Trace → BookPart → ℕ → Option Name → List Cell
access_cell_in trace book p None = []
access_cell_in trace book p (Some x) = base_cell_in book p (owner_in trace book x.seg.0)

-- the process ends the other one when it kills it, by the book
abbrev pub ends_other_in : Trace → BookPart → ℕ → ℕ → Bool
ends_other_in trace book p q = is_above trace p q && not (book.ended q)

-- the cells beside the process's own that its operation touches, by the own cell's and the book's part
unfoldable pub other_cells_in : Trace → BookPart → CellPart → ℕ → Op → List Cell
other_cells_in trace book own p (New r ty) = []
other_cells_in trace book own p (KNew r ty) = Kernel ∷ []
other_cells_in trace book own p (SNew r s ty) = Shared s ∷ []
other_cells_in trace book own p (Store base i value) = access_cell_in trace book p (held_in own.process base.0)
other_cells_in trace book own p (Load r base i) = access_cell_in trace book p (held_in own.process base.0)
other_cells_in trace book own p (Move r from) = []
other_cells_in trace book own p (Clear r) = []
other_cells_in trace book own p (Dir r) = []
other_cells_in trace book own p (Put base i number) = access_cell_in trace book p (held_in own.process base.0)
other_cells_in trace book own p (Get base i) = access_cell_in trace book p (held_in own.process base.0)
other_cells_in trace book own p Collect = []
other_cells_in trace book own p KCollect = Kernel ∷ []
other_cells_in trace book own p (Share s) = Shared s ∷ []
other_cells_in trace book own p (Freeze s root) = Shared s ∷ []
other_cells_in trace book own p (Attach r s) = Shared s ∷ []
other_cells_in trace book own p Exit = Kernel ∷ []
other_cells_in trace book own p (Kill q) = if ends_other_in trace book p q.0 then User q ∷ Kernel ∷ [] else []
other_cells_in trace book own p (Resize m max) = []

-- the cells that the process's operation touches, its own first
abbrev pub cells_in : Trace → BookPart → CellPart → Pid → Op → List Cell
cells_in trace book own pid op = User pid ∷ other_cells_in trace book own pid.0 op

-- the cells that an event touches, by the parts; the book belongs to every event and is not named
abbrev pub touched_in : Trace → BookPart → (Cell → CellPart) → Event → List Cell
touched_in trace book parts (DoneEvent pid op said) = cells_in trace book (parts (User pid)) pid op
touched_in trace book parts (Ended h objects bytes exits shares) = h ∷ []
touched_in trace book parts (Absorbed s) = Shared s ∷ Kernel ∷ []
touched_in trace book parts Closing = Kernel ∷ []
