-- What a step finds: cells and book that agree with one trace and are of one table, with no collection open in the cells.
use Rattle.std.specs.Prelude.{◌≡◌, ◌≤◌, IsFalse, []}
use Rattle.k_types.specs.declared.names.CellPhase.TheVariants.{Idle}
use Rattle.k_types.specs.declared.names.Heap.TheVariants.{User}
use Rattle.k_types.specs.Trace.{Trace, process_count, segment_of}
use Rattle.k_types.specs.TraceRules.{KeepsRules}
use Rattle.k_book.specs.k_agree.Agreement.{Agrees, BookAgrees}
use Rattle.k_book.specs.Books.{BookRecord, pin_room_of}
use Rattle.k_book.specs.Machine.{IsBookOf}
use Rattle.k_heap.specs.Holdings.{HoldingsValue}
use Rattle.k_heap.specs.Heaps.{HeapRecord, has_ended_in}
use Rattle.k_shared.specs.SharedHeaps.{SharedRecord}
use Rattle.k_commit.specs.Others.{OtherValue, of_kernel, of_shared}

-- the book is that of the trace, which keeps the rules; it agrees with its journal, and has room for the pins of all registers and one more
pub record BookStands (trace : Trace) (book : BookRecord) : Type 0 where
  pub keeps : KeepsRules trace
  pub of_trace : IsBookOf trace book
  pub agrees : BookAgrees trace book.journal book.value
  pub pins : pin_room_of (process_count trace) ≤ book.pin_room

-- the process's cell agrees and is of the book's table; nothing is unpublished, no collection is open, and the process lives
pub record HeapStands (trace : Trace) (cell : HeapRecord) (book : BookRecord) : Type 0 where
  pub agrees : Agrees trace (User cell.pid) cell.note cell.value
  pub table : cell.note.table ≡ book.journal.table
  pub settled : cell.value.tail ≡ []
  pub idle : cell.value.collection ≡ Idle
  pub lives : IsFalse (has_ended_in cell.value.process)

-- a cell beside the process's own agrees and is of the book's table, it begins with its heap's own segment, and no collection is open
pub record OtherStands (trace : Trace) (other : OtherValue) (book : BookRecord) : Type 0 where
  pub agrees : Agrees trace other.cell other.held.note other.held.value
  pub table : other.held.note.table ≡ book.journal.table
  pub segment : other.seg ≡ segment_of trace other.cell
  pub idle : other.held.value.collection ≡ Idle

-- the kernel's cell stands so
abbrev pub KernelStands : Trace → HoldingsValue → BookRecord → Type 0
KernelStands trace kernel book = OtherStands trace (of_kernel kernel) book

-- the cell of a shared heap stands so
abbrev pub SharedStands : Trace → SharedRecord → BookRecord → Type 0
SharedStands trace shared book = OtherStands trace (of_shared shared) book
