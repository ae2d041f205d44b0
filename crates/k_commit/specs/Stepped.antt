-- What a step leaves.
use Rattle.std.specs.Prelude.{◌≡◌, ◌+◌, [], ◌∷◌, ◌++◌}
use Rattle.k_types.specs.declared.event.Event.{Event}
use Rattle.k_types.specs.declared.event.Event.TheVariants.{Done}
use Rattle.k_types.specs.declared.event.Reply.{Reply}
use Rattle.k_types.specs.declared.names.CellPhase.TheVariants.{Idle}
use Rattle.k_types.specs.declared.names.Heap.TheVariants.{User}
use Rattle.k_types.specs.declared.op.Op.{Op}
use Rattle.k_types.specs.Steps.{IsPossible, state_after}
use Rattle.k_types.specs.Trace.{Trace}
use Rattle.k_book.specs.k_agree.Agreement.{Agrees, BookAgrees}
use Rattle.k_book.specs.k_agree.Meeting.{HasMet}
use Rattle.k_book.specs.Books.{BookRecord}
use Rattle.k_laws.specs.PartUpdates.{done_in}
use Rattle.k_heap.specs.Heaps.{HeapRecord}
use Rattle.k_laws.specs.Lawful.{IsLawful}
use Rattle.k_commit.specs.Changed.{bodies_after}

-- the event is the operation's, possible after the journal, lawful, and its newest; the cell is the same one with its rooms, has
-- taken the body that an allocation takes, has done one operation more, is idle with nothing unpublished and has met the journal; cell
-- and book agree
pub record HasStepped (trace : Trace) (op : Op) (old_cell cell : HeapRecord) (old_book book : BookRecord) (event : Event) : Type 0 where
  pub said : Reply
  pub event_is : event ≡ Done old_cell.pid op said
  pub possible : IsPossible trace (state_after trace old_book.journal.list) event
  pub lawful : IsLawful trace old_book.journal.list event
  pub journal : book.journal.list ≡ old_book.journal.list ++ event ∷ []
  pub same_table : book.journal.table ≡ old_book.journal.table
  pub table : cell.note.table ≡ book.journal.table
  pub cell_is : cell ≡ record old_cell { note = cell.note; value = cell.value; bodies = bodies_after op old_cell.bodies }
  pub book_is : book ≡ record old_book { journal = book.journal; value = book.value }
  pub settled : cell.value.tail ≡ []
  pub idle : cell.value.collection ≡ Idle
  pub done : done_in cell.value.process ≡ done_in old_cell.value.process + 1
  pub met : HasMet trace book.journal (User cell.pid) cell.note
  pub agrees : Agrees trace (User cell.pid) cell.note cell.value
  pub book_agrees : BookAgrees trace book.journal book.value
