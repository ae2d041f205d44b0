-- What goes at the end of a collection, before its event is appended.
use Rattle.std.proofs.Common.{◌≡◌, ◌<◌, ◌^◌, ℕ}
use Rattle.k_types.specs.declared.event.Event.{Event}
use Rattle.k_types.specs.declared.event.Event.TheVariants.{Ended}
use Rattle.k_types.specs.declared.names.CellPhase.TheVariants.{Marked}
use Rattle.k_types.specs.declared.names.Heap.{Heap}
use Rattle.k_types.specs.declared.names.Heap.TheVariants.{Kernel, User}
use Rattle.k_types.specs.declared.names.Name.{Name}
use Rattle.k_types.specs.Agree.{CellValue}
use Rattle.k_types.specs.Cells.{Cell}
use Rattle.k_types.specs.Names.{name_among}
use Rattle.k_types.specs.Owners.{owner_of}
use Rattle.k_types.specs.Steps.{state_after}
use Rattle.k_types.specs.Trace.{Trace}
use Rattle.k_types.specs.Distinct.{AreDistinctNames}
use Rattle.k_tie.specs.Values.{NoteValue}
use Rattle.k_agree.specs.Ending.{HasLeft, HasSettledWith, dropped, dropped_exits, dropped_shares, freed_bytes, freed_objects, swept}
use Rattle.k_commit.specs.k_book.Books.{BookRecord}
use Rattle.k_commit.specs.k_book.Calls.{ChangesEntries}
use Rattle.k_commit.specs.k_cell.Holdings.{HoldingsValue}
use Rattle.k_commit.specs.k_heap.Heaps.{HeapRecord}
use Rattle.k_commit.specs.Met.{ShowsAfter}
use Rattle.k_commit.specs.Rooms.{HasEventRoom}
use Rattle.k_commit.specs.Standing.{BookStands}

-- the book stands and has room for an event, and the cell has met the journal, is marked and shows the state after it
pub record CanSweep (trace : Trace) (cell : Cell) (note : NoteValue) (value : CellValue) (book : BookRecord) : Type 0 where
  pub book_stands : BookStands trace book
  pub after : ShowsAfter trace cell note value book
  pub marked : value.collection ≡ Marked
  pub room : HasEventRoom book

-- who owns the segments after the events of the journal
abbrev pub owners_now : Trace → BookRecord → ℕ → Heap
owners_now trace book = owner_of trace (state_after trace book.journal.list)

-- the cell is swept, with its exit items in any order; none of them stood twice
pub record IsSwept (old new : CellValue) : Type 0 where
  pub rest : new ≡ record (swept old) { exits = new.exits }
  pub exits : (n : Name) → name_among n new.exits ≡ name_among n (swept old).exits
  pub distinct : AreDistinctNames old.exits

-- the process's cell is swept, the book has settled with it, and the event has the numbers of what went
pub record HasSweptHeap (trace : Trace) (old_cell cell : HeapRecord) (old_book book : BookRecord) (event : Event) : Type 0 where
  pub cell_is : cell ≡ record old_cell { value = cell.value }
  pub swept : IsSwept old_cell.value cell.value
  pub book_is : book ≡ record old_book { value = book.value }
  pub settled : HasSettledWith trace (owners_now trace old_book) old_cell.pid.0 old_cell.value old_book.value book.value
  pub event_is : event ≡ Ended (User old_cell.pid) (freed_objects old_cell.value) (freed_bytes old_cell.value) (dropped_exits old_cell.value)
      (dropped_shares trace (owners_now trace old_book) old_book.value old_cell.value old_cell.pid.0)

-- the kernel's cell is swept, the book has left what it dropped, and the event has the numbers of what went
pub record HasSweptKernel (trace : Trace) (old_kernel kernel : HoldingsValue) (old_book book : BookRecord) (event : Event) : Type 0 where
  pub kernel_is : kernel ≡ record old_kernel { value = kernel.value }
  pub swept : IsSwept old_kernel.value kernel.value
  pub book_is : ChangesEntries old_book book
  pub left : HasLeft (dropped old_kernel.value) old_book.value book.value
  pub event_is : event ≡ Ended Kernel (freed_objects old_kernel.value) (freed_bytes old_kernel.value) (dropped_exits old_kernel.value) 0
