-- The sweep of a marked cell, and the end of its collection after it.
use Rattle.std.specs.Prelude.{◌≡◌, ◌+◌, ◌-◌, ◌<◌, ◌^◌, length}
use Rattle.k_types.specs.declared.names.CellPhase.TheVariants.{Marked}
use Rattle.k_types.specs.Agree.{CellValue}
use Rattle.k_types.specs.Cells.{Cell}
use Rattle.k_types.specs.Trace.{Trace}
use Rattle.k_types.specs.TraceRules.{KeepsRules}
use Rattle.k_mark.specs.declared.sweeping.Swept.{Swept}
use Rattle.k_tie.specs.Values.{NoteValue}
use Rattle.k_agree.specs.Agreement.{Agrees}
use Rattle.k_agree.specs.Ending.{freed_bytes, freed_objects}
use Rattle.k_agree.specs.Meeting.{Fits, met_note}
use Rattle.k_commit.specs.k_book.Books.{BookRecord}
use Rattle.k_commit.specs.k_cell.Changes.{with_black_alone}
use Rattle.k_commit.specs.k_cell.Holdings.{HoldingsValue}
use Rattle.k_commit.specs.k_heap.Heaps.{HeapRecord}
use Rattle.k_collect.specs.Collecting.{CanEndHeap, CanEndKernel, HasFewObjects}

-- the cell agrees and is marked, it has few objects, and it has seen so few events that 64 bits have the bytes of its objects
pub record CanSweepAlone (trace : Trace) (cell : Cell) (note : NoteValue) (value : CellValue) : Type 0 where
  pub keeps : KeepsRules trace
  pub agrees : Agrees trace cell note value
  pub marked : value.collection ≡ Marked
  pub few : HasFewObjects value
  pub short : length note.list + length value.tail < 2 ^ 55

-- the process's cell has its black objects alone, nothing else of it has changed, and the numbers are those of the objects that went
pub record HasSweptAlone (old_cell cell : HeapRecord) (freed : Swept) : Type 0 where
  pub cell_is : cell ≡ record old_cell { value = with_black_alone old_cell.value }
  pub objects : freed.objects ≡ freed_objects old_cell.value
  pub bytes : freed.bytes ≡ freed_bytes old_cell.value

-- the same of the kernel's cell
pub record KernelHasSweptAlone (old_kernel kernel : HoldingsValue) (freed : Swept) : Type 0 where
  pub kernel_is : kernel ≡ record old_kernel { value = with_black_alone old_kernel.value }
  pub objects : freed.objects ≡ freed_objects old_kernel.value
  pub bytes : freed.bytes ≡ freed_bytes old_kernel.value

-- the process's cell is one with which the collection could end, swept since, and the numbers are those of the objects that went
pub record CanEndSwept (trace : Trace) (cell : HeapRecord) (book : BookRecord) (freed : Swept) : Type 0 where
  pub before : HeapRecord
  pub can : CanEndHeap trace before book
  pub swept : HasSweptAlone before cell freed

-- the same of the kernel's cell
pub record CanEndSweptKernel (trace : Trace) (kernel : HoldingsValue) (book : BookRecord) (freed : Swept) : Type 0 where
  pub before : HoldingsValue
  pub can : CanEndKernel trace before book
  pub swept : KernelHasSweptAlone before kernel freed

-- the note of the process's cell has met the journal of the book, whatever the cell shows, and nothing else has changed
pub record NoteHasMet (old_cell cell : HeapRecord) (old_book book : BookRecord) : Type 0 where
  pub cell_is : cell ≡ record old_cell { note = met_note old_book.journal old_cell.note }
  pub book_is : book ≡ old_book
  pub fits : Fits old_book.journal old_cell.note
  pub few : old_book.event_room < 2 ^ 55

-- the note of the kernel's cell has met it, and nothing else has changed
pub record KernelNoteHasMet (old_kernel kernel : HoldingsValue) (old_book book : BookRecord) : Type 0 where
  pub kernel_is : kernel ≡ record old_kernel { note = met_note old_book.journal old_kernel.note }
  pub book_is : book ≡ old_book
  pub fits : Fits old_book.journal old_kernel.note
  pub few : old_book.event_room < 2 ^ 55
