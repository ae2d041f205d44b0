-- What a call that publishes owes and leaves.
use Rattle.std.specs.Prelude.{◌≡◌, ◌+◌, ◌≤◌, List, [], ◌++◌, length}
use Rattle.k_types.specs.declared.event.Event.{Event}
use Rattle.k_types.specs.declared.names.Heap.TheVariants.{User}
use Rattle.k_types.specs.Sound.{IsSound}
use Rattle.k_types.specs.Steps.{state_after}
use Rattle.k_types.specs.Trace.{Trace}
use Rattle.k_types.specs.TraceRules.{AreLimits}
use Rattle.k_book.specs.k_agree.Agreement.{Agrees, BookAgrees}
use Rattle.k_book.specs.k_agree.Meeting.{Fits, HasMet}
use Rattle.k_book.specs.Books.{BookRecord}
use Rattle.k_heap.specs.Heaps.{HeapRecord}

-- cell and book agree with one trace and are of one table, whatever the phase of a collection, and once the note fits the journal there is
-- room for the cell's unpublished events
pub record CanPublish (trace : Trace) (cell : HeapRecord) (book : BookRecord) : Type 0 where
  pub agrees : Agrees trace (User cell.pid) cell.note cell.value
  pub book_agrees : BookAgrees trace book.journal book.value
  pub table : cell.note.table ≡ book.journal.table
  pub room : Fits book.journal cell.note → length book.journal.list + length cell.value.tail ≤ book.event_room

-- the note fitted the journal. The journal has these events more; all else of the book is as it was. The cell has none unpublished, has met
-- the longer journal, and is as it was but for its note; cell and book agree. Where the limits of the trace are a tree the state after
-- the journal is sound
pub record HasPublished (trace : Trace) (events : List Event) (old_cell cell : HeapRecord) (old_book book : BookRecord) : Type 0 where
  pub fits : Fits old_book.journal old_cell.note
  pub cell_is : cell ≡ record old_cell { note = cell.note; value = record old_cell.value { tail = [] } }
  pub book_is : book ≡ record old_book { journal = book.journal }
  pub journal : book.journal.list ≡ old_book.journal.list ++ events
  pub table : cell.note.table ≡ book.journal.table
  pub same_table : book.journal.table ≡ old_book.journal.table
  pub sound : AreLimits trace → IsSound trace (state_after trace book.journal.list)
  pub met : HasMet trace book.journal (User cell.pid) cell.note
  pub agrees : Agrees trace (User cell.pid) cell.note cell.value
  pub book_agrees : BookAgrees trace book.journal book.value
