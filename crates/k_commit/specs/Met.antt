-- What a meeting asks and leaves, and cells and book that have met before a step changes them.
use Rattle.std.specs.Prelude.{◌≡◌, ◌<◌, ◌^◌, []}
use Rattle.k_types.specs.declared.names.Heap.TheVariants.{User}
use Rattle.k_types.specs.Agree.{CellValue}
use Rattle.k_types.specs.Cells.{Cell}
use Rattle.k_types.specs.Steps.{state_after}
use Rattle.k_types.specs.Trace.{Trace}
use Rattle.k_tie.specs.Values.{NoteValue}
use Rattle.k_book.specs.k_agree.Agreement.{Agrees, BookAgrees, Shows}
use Rattle.k_book.specs.k_agree.Meeting.{Fits, HasMet, ShowsTheJournal, met_note}
use Rattle.k_book.specs.Books.{BookRecord}
use Rattle.k_heap.specs.Holdings.{HoldingsValue}
use Rattle.k_heap.specs.Heaps.{HeapRecord}
use Rattle.k_shared.specs.SharedHeaps.{SharedRecord}
use Rattle.k_commit.specs.Others.{OtherValue, of_kernel, of_shared, with_note}
use Rattle.k_commit.specs.Standing.{BookStands, HeapStands, OtherStands}

-- cell and book agree with one trace and are of one table, whatever the phase of a collection and the unpublished events
pub record CanMeet (trace : Trace) (cell : Cell) (note : NoteValue) (value : CellValue) (book : BookRecord) : Type 0 where
  pub agrees : Agrees trace cell note value
  pub book_agrees : BookAgrees trace book.journal book.value
  pub table : note.table ≡ book.journal.table

-- what is known of a cell whose note meets the journal: the note fits it, so that the cell speaks of the whole journal, and the
-- book has room for fewer than 2 ^ 55 events
pub record FitsTheBook (trace : Trace) (cell : Cell) (note : NoteValue) (value : CellValue) (book : BookRecord) : Type 0 where
  pub fits : Fits book.journal note
  pub shows : ShowsTheJournal trace book.journal cell note value
  pub few : book.event_room < 2 ^ 55

-- the process's cell has met the journal of the book, and nothing else has changed
pub record HeapHasMet (trace : Trace) (old_cell cell : HeapRecord) (old_book book : BookRecord) : Type 0 where
  pub cell_is : cell ≡ record old_cell { note = met_note old_book.journal old_cell.note }
  pub book_is : book ≡ old_book
  pub told : FitsTheBook trace (User old_cell.pid) old_cell.note old_cell.value old_book

-- a cell beside the process's own has met it, and nothing else has changed
pub record OtherHasMet (trace : Trace) (old_other other : OtherValue) (old_book book : BookRecord) : Type 0 where
  pub other_is : other ≡ with_note (met_note old_book.journal old_other.held.note) old_other
  pub book_is : book ≡ old_book
  pub told : FitsTheBook trace old_other.cell old_other.held.note old_other.held.value old_book

-- the kernel's cell has met it
abbrev pub KernelHasMet : Trace → HoldingsValue → HoldingsValue → BookRecord → BookRecord → Type 0
KernelHasMet trace old_kernel kernel old_book book = OtherHasMet trace (of_kernel old_kernel) (of_kernel kernel) old_book book

-- the cell of a shared heap has met it
abbrev pub SharedHasMet : Trace → SharedRecord → SharedRecord → BookRecord → BookRecord → Type 0
SharedHasMet trace old_shared shared old_book book = OtherHasMet trace (of_shared old_shared) (of_shared shared) old_book book

-- the trace, and the process's cell and the book as they are once they have met and before the step changes them
pub record Before : Type 0 where
  pub trace : Trace
  pub cell : HeapRecord
  pub book : BookRecord

-- the same with one more cell
pub record BeforeWith : Type 0 where
  pub own : Before
  pub other : OtherValue

-- the note of the cell knows the whole journal, and its value shows the state after it
pub record ShowsAfter (trace : Trace) (cell : Cell) (note : NoteValue) (value : CellValue) (book : BookRecord) : Type 0 where
  pub met : HasMet trace book.journal cell note
  pub shows : Shows trace (state_after trace book.journal.list) cell value

-- cell and book stand and have met
pub record HaveMet (before : Before) : Type 0 where
  pub book : BookStands before.trace before.book
  pub heap : HeapStands before.trace before.cell before.book
  pub after : ShowsAfter before.trace (User before.cell.pid) before.cell.note before.cell.value before.book
  pub few : before.book.event_room < 2 ^ 55

-- so do both cells and the book
pub record HaveMetWith (before : BeforeWith) : Type 0 where
  pub own : HaveMet before.own
  pub other : OtherStands before.own.trace before.other before.own.book
  pub settled : before.other.held.value.tail ≡ []
  pub after : ShowsAfter before.own.trace before.other.cell before.other.held.note before.other.held.value before.own.book
