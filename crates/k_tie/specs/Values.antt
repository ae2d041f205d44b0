-- What contracts see of the journal's seat and of a note.
use Rattle.std.specs.Prelude.{ℕ, List, []}
use Rattle.atomic_table.specs.Seated.{TableId}
use Rattle.k_types.specs.declared.event.Event.{Event}
use Rattle.k_tie.specs.declared.view.View.{View}
use Rattle.k_tie.specs.declared.view.View.TheVariants.{Journal, Note, Spent}
use Rattle.k_tie.specs.Steps.{cell_view}

-- the whole journal, and the number of a cell for each touch of it
pub record JournalValue : Type 0 where
  pub table : TableId
  pub list : List Event
  pub touches : List ℕ

-- a cell's number, a prefix of the journal, and how many events touch the cell
pub record NoteValue : Type 0 where
  pub table : TableId
  pub cell : ℕ
  pub list : List Event
  pub share : ℕ

-- the journal with no event, of which every total is 0
abbrev pub empty_journal : TableId → JournalValue
empty_journal table = record { table = table; list = []; touches = [] }

-- the note of a cell in the empty journal
abbrev pub blank_note : TableId → ℕ → NoteValue
blank_note table cell = record { table = table; cell = cell; list = []; share = 0 }

-- the journal as the view of its seat has it
abbrev pub journal_value : TableId → View → JournalValue
journal_value table (Journal list touches in_hand) = record { table = table; list = list; touches = touches }
journal_value table (Note known) = empty_journal table
journal_value table Spent = empty_journal table

-- between calls no cell is in hand
abbrev pub journal_view : JournalValue → View
journal_view journal = Journal journal.list journal.touches []

-- a note as the view of its seat has it
abbrev pub note_value : TableId → View → NoteValue
note_value table (Journal list touches in_hand) = blank_note table 0
note_value table (Note known) = record { table = table; cell = known.cell; list = known.list; share = known.share }
note_value table Spent = blank_note table 0

-- the view of the seat of a note
abbrev pub note_view : NoteValue → View
note_view note = Note (cell_view note.cell note.list note.share)

-- the name of no table
abbrev pub no_table : TableId
no_table = record { words = 0; slots = 0; views_name = 0; atom = 0; block = 0; offset = 0; slot_names = [] }
