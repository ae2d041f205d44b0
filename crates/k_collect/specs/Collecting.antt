-- What the calls of a collection ask: cells in the phase of their collection, a book that stands, and room for one event.
use Rattle.std.specs.Prelude.{◌≡◌, ◌<◌, ◌^◌, [], None, IsFalse, IsTrue, length}
use Rattle.k_types.specs.declared.names.CellPhase.{CellPhase}
use Rattle.k_types.specs.declared.names.CellPhase.TheVariants.{Marked}
use Rattle.k_types.specs.declared.names.Heap.TheVariants.{Kernel, User}
use Rattle.k_types.specs.Agree.{CellValue}
use Rattle.k_types.specs.Trace.{Trace}
use Rattle.k_agree.specs.Agreement.{Agrees}
use Rattle.k_agree.specs.Meeting.{Fits}
use Rattle.k_agree.specs.Settled.{all_ended_in}
use Rattle.k_commit.specs.k_book.Books.{BookRecord}
use Rattle.k_commit.specs.k_cell.Holdings.{HoldingsValue}
use Rattle.k_commit.specs.k_heap.Heaps.{HeapRecord}
use Rattle.k_shares.specs.Sharers.{lowest_orphan}
use Rattle.k_commit.specs.Rooms.{HasEventRoom}
use Rattle.k_commit.specs.Standing.{BookStands, HeapStands, KernelStands}

-- the process's cell agrees and is of the book's table, nothing is unpublished, and its collection is in this phase
pub record HeapCollects (trace : Trace) (cell : HeapRecord) (book : BookRecord) (phase : CellPhase) : Type 0 where
  pub agrees : Agrees trace (User cell.pid) cell.note cell.value
  pub table : cell.note.table ≡ book.journal.table
  pub settled : cell.value.tail ≡ []
  pub in_phase : cell.value.collection ≡ phase

-- the kernel's cell agrees and is of the book's table, and its collection is in this phase
pub record KernelCollects (trace : Trace) (kernel : HoldingsValue) (book : BookRecord) (phase : CellPhase) : Type 0 where
  pub agrees : Agrees trace Kernel kernel.note kernel.value
  pub table : kernel.note.table ≡ book.journal.table
  pub in_phase : kernel.value.collection ≡ phase

-- 32 bits count the objects of the cell
abbrev pub HasFewObjects : CellValue → Type 0
HasFewObjects value = length value.objects < 2 ^ 32

-- cell and book stand, and once the note fits the journal there is room for the event
pub record CanBeginHeap (trace : Trace) (cell : HeapRecord) (book : BookRecord) : Type 0 where
  pub book_stands : BookStands trace book
  pub heap_stands : HeapStands trace cell book
  pub room : Fits book.journal cell.note → HasEventRoom book

-- the book stands, the process's cell is marked, and once the note fits the journal there is room for the event and the cell has few objects
pub record CanEndHeap (trace : Trace) (cell : HeapRecord) (book : BookRecord) : Type 0 where
  pub book_stands : BookStands trace book
  pub collects : HeapCollects trace cell book Marked
  pub room : Fits book.journal cell.note → HasEventRoom book
  pub few : Fits book.journal cell.note → HasFewObjects cell.value

-- both cells and the book stand, no shared heap is an orphan, and once the notes fit the journal there is room for the event
pub record CanBeginKernel (trace : Trace) (cell : HeapRecord) (kernel : HoldingsValue) (book : BookRecord) : Type 0 where
  pub book_stands : BookStands trace book
  pub heap_stands : HeapStands trace cell book
  pub kernel_stands : KernelStands trace kernel book
  pub orphans : lowest_orphan book.value.phases book.value.shares ≡ None
  pub room : Fits book.journal cell.note → Fits book.journal kernel.note → HasEventRoom book

-- the book stands, the kernel's cell is marked, and once the note fits the journal there is room for the event and the cell has few objects
pub record CanEndKernel (trace : Trace) (kernel : HoldingsValue) (book : BookRecord) : Type 0 where
  pub book_stands : BookStands trace book
  pub collects : KernelCollects trace kernel book Marked
  pub room : Fits book.journal kernel.note → HasEventRoom book
  pub few : Fits book.journal kernel.note → HasFewObjects kernel.value

-- the kernel's cell and the book stand, every process has ended, no shared heap is an orphan, the last collection has not begun yet, and
-- once the note fits the journal there is room for the event
pub record CanClose (trace : Trace) (kernel : HoldingsValue) (book : BookRecord) : Type 0 where
  pub book_stands : BookStands trace book
  pub kernel_stands : KernelStands trace kernel book
  pub ended : IsTrue (all_ended_in trace book.value)
  pub orphans : lowest_orphan book.value.phases book.value.shares ≡ None
  pub first : IsFalse book.value.closed
  pub room : Fits book.journal kernel.note → HasEventRoom book
