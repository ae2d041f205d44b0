-- What the beginning of a collection leaves.
use Rattle.std.specs.Prelude.{◌≡◌, ◌+◌, [], ◌∷◌, ◌++◌}
use Rattle.k_types.specs.declared.event.Event.{Event}
use Rattle.k_types.specs.declared.event.Event.TheVariants.{Closing, Done}
use Rattle.k_types.specs.declared.event.Reply.TheVariants.{Done as DoneReply}
use Rattle.k_types.specs.declared.names.CellPhase.{CellPhase}
use Rattle.k_types.specs.declared.names.CellPhase.TheVariants.{Begun, Idle}
use Rattle.k_types.specs.declared.names.Heap.{Heap}
use Rattle.k_types.specs.declared.names.Heap.TheVariants.{Kernel, User}
use Rattle.k_types.specs.declared.names.Name.{Name}
use Rattle.k_types.specs.declared.op.Op.TheVariants.{Collect, KCollect}
use Rattle.k_types.specs.Agree.{CellValue}
use Rattle.k_types.specs.Names.{name_among}
use Rattle.k_types.specs.Reach.{roots_of}
use Rattle.k_types.specs.Steps.{IsPossible, state_after}
use Rattle.k_types.specs.Trace.{Trace}
use Rattle.k_laws.specs.PartUpdates.{done_in}
use Rattle.k_agree.specs.Agreement.{Agrees, BookAgrees}
use Rattle.k_agree.specs.Meeting.{HasMet}
use Rattle.k_commit.specs.k_book.Books.{BookRecord}
use Rattle.k_commit.specs.k_cell.Holdings.{HoldingsValue}
use Rattle.k_commit.specs.k_heap.Heaps.{HeapRecord}
use Rattle.k_laws.specs.Lawful.{IsLawful}

-- the event is possible after the journal, lawful, and its newest; the book is as it was but for its journal and its value, and agrees
pub record HasAppended (trace : Trace) (old_book book : BookRecord) (event : Event) : Type 0 where
  pub possible : IsPossible trace (state_after trace old_book.journal.list) event
  pub lawful : IsLawful trace old_book.journal.list event
  pub journal : book.journal.list ≡ old_book.journal.list ++ event ∷ []
  pub same_table : book.journal.table ≡ old_book.journal.table
  pub book_is : book ≡ record old_book { journal = book.journal; value = book.value }
  pub agrees : BookAgrees trace book.journal book.value

-- the process's cell is as it was but for its note and its value; its collection is in this phase, nothing is unpublished, and it has met
-- the journal and agrees
pub record HeapGoesOn (trace : Trace) (old_cell cell : HeapRecord) (book : BookRecord) (phase : CellPhase) : Type 0 where
  pub cell_is : cell ≡ record old_cell { note = cell.note; value = cell.value }
  pub table : cell.note.table ≡ book.journal.table
  pub settled : cell.value.tail ≡ []
  pub in_phase : cell.value.collection ≡ phase
  pub met : HasMet trace book.journal (User cell.pid) cell.note
  pub agrees : Agrees trace (User cell.pid) cell.note cell.value

-- the kernel's cell is as it was but for its note and its value; its collection is in this phase, and it has met the journal and agrees
pub record KernelGoesOn (trace : Trace) (old_kernel kernel : HoldingsValue) (book : BookRecord) (phase : CellPhase) : Type 0 where
  pub kernel_is : kernel ≡ record old_kernel { note = kernel.note; value = kernel.value }
  pub table : kernel.note.table ≡ book.journal.table
  pub in_phase : kernel.value.collection ≡ phase
  pub met : HasMet trace book.journal Kernel kernel.note
  pub agrees : Agrees trace Kernel kernel.note kernel.value

-- the gray objects are exactly the machine's roots of the heap after the events of the journal
abbrev pub IsGrayAtTheRoots : Trace → BookRecord → Heap → CellValue → Type 0
IsGrayAtTheRoots trace book heap value = (n : Name) → name_among n value.gray ≡ name_among n (roots_of trace (state_after trace book.journal.list) heap)

-- the operation `collect` is appended and counted, and the collection of the process's heap has begun with its roots gray
pub record HasBegunHeap (trace : Trace) (old_cell cell : HeapRecord) (old_book book : BookRecord) (event : Event) : Type 0 where
  pub event_is : event ≡ Done old_cell.pid Collect DoneReply
  pub appended : HasAppended trace old_book book event
  pub heap_goes_on : HeapGoesOn trace old_cell cell book Begun
  pub done : done_in cell.value.process ≡ done_in old_cell.value.process + 1
  pub gray : IsGrayAtTheRoots trace old_book (User old_cell.pid) cell.value

-- the operation `kcollect` is appended and counted, and the collection of the kernel's heap has begun with its roots gray
pub record HasBegunKernel (trace : Trace) (old_cell cell : HeapRecord) (old_kernel kernel : HoldingsValue) (old_book book : BookRecord) (event : Event) : Type 0 where
  pub event_is : event ≡ Done old_cell.pid KCollect DoneReply
  pub appended : HasAppended trace old_book book event
  pub heap_goes_on : HeapGoesOn trace old_cell cell book Idle
  pub kernel_goes_on : KernelGoesOn trace old_kernel kernel book Begun
  pub done : done_in cell.value.process ≡ done_in old_cell.value.process + 1
  pub gray : IsGrayAtTheRoots trace old_book Kernel kernel.value

-- the closing is appended, and the last collection of the kernel's heap has begun with its roots gray
pub record HasClosed (trace : Trace) (old_kernel kernel : HoldingsValue) (old_book book : BookRecord) (event : Event) : Type 0 where
  pub event_is : event ≡ Closing
  pub appended : HasAppended trace old_book book event
  pub kernel_goes_on : KernelGoesOn trace old_kernel kernel book Begun
  pub gray : IsGrayAtTheRoots trace old_book Kernel kernel.value
