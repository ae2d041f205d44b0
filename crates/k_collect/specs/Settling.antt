-- What is asked and left where the run settles: unpublished events are published, and what is open ends.
use Rattle.std.specs.Prelude.{◌≡◌, ◌+◌, ◌≤◌, ℕ, List, [], ◌∷◌, ◌++◌, length}
use Rattle.k_types.specs.declared.event.Event.{Event}
use Rattle.k_types.specs.declared.event.Event.TheVariants.{Ended}
use Rattle.k_types.specs.declared.names.CellPhase.{CellPhase}
use Rattle.k_types.specs.declared.names.CellPhase.TheVariants.{Begun, Idle, Marked}
use Rattle.k_types.specs.declared.names.Heap.{Heap}
use Rattle.k_types.specs.declared.names.Heap.TheVariants.{Kernel, User}
use Rattle.k_types.specs.Agree.{CellValue}
use Rattle.k_types.specs.Sound.{IsSound}
use Rattle.k_types.specs.Steps.{state_after}
use Rattle.k_types.specs.Trace.{Trace}
use Rattle.k_agree.specs.Agreement.{Agrees, BookAgrees}
use Rattle.k_agree.specs.Meeting.{Fits}
use Rattle.k_commit.specs.k_book.Books.{BookRecord}
use Rattle.k_commit.specs.k_cell.Holdings.{HoldingsValue}
use Rattle.k_commit.specs.k_heap.Heaps.{HeapRecord}
use Rattle.k_commit.specs.Standing.{BookStands}
use Rattle.k_collect.specs.Begun.{HeapGoesOn, KernelGoesOn}
use Rattle.k_collect.specs.Collecting.{HasFewObjects}

-- how many events end a collection in this phase
abbrev pub ends_to_come : CellPhase → ℕ
ends_to_come Idle = 0
ends_to_come Begun = 1
ends_to_come Marked = 1

-- the book stands, the process's cell agrees and is of its table, whatever its phase and its unpublished events, and once the note fits
-- the journal there is room for these and for the end of an open collection, and the cell has few objects
pub record CanSettleHeap (trace : Trace) (cell : HeapRecord) (book : BookRecord) : Type 0 where
  pub book_stands : BookStands trace book
  pub agrees : Agrees trace (User cell.pid) cell.note cell.value
  pub table : cell.note.table ≡ book.journal.table
  pub room : Fits book.journal cell.note → length book.journal.list + length cell.value.tail + ends_to_come cell.value.collection ≤ book.event_room
  pub few : Fits book.journal cell.note → HasFewObjects cell.value

-- the same of the kernel's cell, which has no unpublished events
pub record CanSettleKernel (trace : Trace) (kernel : HoldingsValue) (book : BookRecord) : Type 0 where
  pub book_stands : BookStands trace book
  pub agrees : Agrees trace Kernel kernel.note kernel.value
  pub table : kernel.note.table ≡ book.journal.table
  pub room : Fits book.journal kernel.note → length book.journal.list + ends_to_come kernel.value.collection ≤ book.event_room
  pub few : Fits book.journal kernel.note → HasFewObjects kernel.value

-- the one event that ends a collection of the heap
pub record IsTheEnd (heap : Heap) (events : List Event) : Type 0 where
  pub objects : ℕ
  pub bytes : ℕ
  pub exits : ℕ
  pub shares : ℕ
  pub is : events ≡ Ended heap objects bytes exits shares ∷ []

-- the events that end what is open of the heap in this phase
abbrev pub AreEnds : Heap → CellPhase → List Event → Type 0
AreEnds heap Idle events = events ≡ []
AreEnds heap Begun events = IsTheEnd heap events
AreEnds heap Marked events = IsTheEnd heap events

-- where no collection is open, nothing else of the book changes than that the journal grows
abbrev pub KeepsBook : CellPhase → BookRecord → BookRecord → Type 0
KeepsBook Idle old new = new ≡ record old { journal = new.journal }
KeepsBook Begun old new = Unit {0}
KeepsBook Marked old new = Unit {0}

-- nor of the cell than that nothing is unpublished
abbrev pub KeepsCell : CellPhase → CellValue → CellValue → Type 0
KeepsCell Idle old new = new ≡ record old { tail = [] }
KeepsCell Begun old new = Unit {0}
KeepsCell Marked old new = Unit {0}

-- the unpublished events of the process's cell are in the journal, and then the end of its open collection; no collection is open, and
-- the state after is sound
pub record HasSettledHeap (trace : Trace) (old_cell cell : HeapRecord) (old_book book : BookRecord) : Type 0 where
  pub fits : Fits old_book.journal old_cell.note
  pub last : List Event
  pub ends : AreEnds (User old_cell.pid) old_cell.value.collection last
  pub journal : book.journal.list ≡ (old_book.journal.list ++ old_cell.value.tail) ++ last
  pub same_table : book.journal.table ≡ old_book.journal.table
  pub book_is : book ≡ record old_book { journal = book.journal; value = book.value }
  pub book_kept : KeepsBook old_cell.value.collection old_book book
  pub cell_kept : KeepsCell old_cell.value.collection old_cell.value cell.value
  pub heap_goes_on : HeapGoesOn trace old_cell cell book Idle
  pub agrees : BookAgrees trace book.journal book.value
  pub sound : IsSound trace (state_after trace book.journal.list)

-- the end of the open collection of the kernel's heap is in the journal; no collection is open, and the state after is sound
pub record HasSettledKernel (trace : Trace) (old_kernel kernel : HoldingsValue) (old_book book : BookRecord) : Type 0 where
  pub fits : Fits old_book.journal old_kernel.note
  pub last : List Event
  pub ends : AreEnds Kernel old_kernel.value.collection last
  pub journal : book.journal.list ≡ old_book.journal.list ++ last
  pub same_table : book.journal.table ≡ old_book.journal.table
  pub book_is : book ≡ record old_book { journal = book.journal; value = book.value }
  pub book_kept : KeepsBook old_kernel.value.collection old_book book
  pub cell_kept : KeepsCell old_kernel.value.collection old_kernel.value kernel.value
  pub kernel_goes_on : KernelGoesOn trace old_kernel kernel book Idle
  pub agrees : BookAgrees trace book.journal book.value
  pub sound : IsSound trace (state_after trace book.journal.list)
