-- Cells beside the process's own that an event touches, as a list, whatever heaps they are of.
use Rattle.std.specs.Prelude.{◌≡◌, [], ◌∷◌, List}
use Rattle.std.specs.List.{AllByRecursion}
use Rattle.k_types.specs.declared.event.Event.{Event}
use Rattle.k_types.specs.declared.names.CellPhase.TheVariants.{Idle}
use Rattle.k_types.specs.declared.op.Op.{Op}
use Rattle.k_types.specs.Trace.{Trace}
use Rattle.k_book.specs.k_agree.Agreement.{Agrees}
use Rattle.k_book.specs.k_agree.Committing.{NotedCell}
use Rattle.k_book.specs.k_agree.Meeting.{Fits, HasMet}
use Rattle.k_book.specs.Books.{BookRecord}
use Rattle.k_heap.specs.Heaps.{HeapRecord}
use Rattle.k_heap.specs.Holdings.{HoldingsValue}
use Rattle.k_shared.specs.SharedHeaps.{SharedRecord}
use Rattle.k_commit.specs.Others.{OtherValue, noted_of, of_kernel, of_shared}
use Rattle.k_commit.specs.Stepped.{HasStepped}

-- the cell agrees and is of the book's table, nothing is unpublished, and no collection is open. Whether its process lives is left open
pub record Stands (trace : Trace) (book : BookRecord) (n : NotedCell) : Type 0 where
  pub agrees : Agrees trace n.cell n.note n.value
  pub table : n.note.table ≡ book.journal.table
  pub settled : n.value.tail ≡ []
  pub idle : n.value.collection ≡ Idle

-- and it has met the journal
pub record StandsMet (trace : Trace) (book : BookRecord) (n : NotedCell) : Type 0 where
  pub stands : Stands trace book n
  pub met : HasMet trace book.journal n.cell n.note

-- a step of an operation that touches these cells too, each of which stands then and has met the journal
pub record HasSteppedBeside (trace : Trace) (op : Op) (old_cell cell : HeapRecord) (cells : List NotedCell) (old_book book : BookRecord) (event : Event) : Type 0 where
  pub own : HasStepped trace op old_cell cell old_book book event
  pub others : AllByRecursion (StandsMet trace book) cells

-- a step of an operation that touches one cell too, which is the same one with its rooms; its note fitted the journal before
pub record HasSteppedWith (trace : Trace) (op : Op) (old_cell cell : HeapRecord) (old_other other : OtherValue) (old_book book : BookRecord) (event : Event) : Type 0 where
  pub beside : HasSteppedBeside trace op old_cell cell (noted_of other ∷ []) old_book book event
  pub fits : Fits old_book.journal old_other.held.note
  pub other_is : other ≡ record old_other { held = record old_other.held { note = other.held.note; value = other.held.value } }

-- the same where that is the kernel's cell
abbrev pub HasSteppedWithKernel : Trace → Op → HeapRecord → HeapRecord → HoldingsValue → HoldingsValue → BookRecord → BookRecord → Event → Type 0
HasSteppedWithKernel trace op old_cell cell old_kernel kernel old_book book event = HasSteppedWith trace op old_cell cell (of_kernel old_kernel) (of_kernel kernel) old_book book event

-- the same where that is the cell of a shared heap
abbrev pub HasSteppedWithShared : Trace → Op → HeapRecord → HeapRecord → SharedRecord → SharedRecord → BookRecord → BookRecord → Event → Type 0
HasSteppedWithShared trace op old_cell cell old_shared shared old_book book event = HasSteppedWith trace op old_cell cell (of_shared old_shared) (of_shared shared) old_book book event
