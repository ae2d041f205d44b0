-- Operations of a process, by the values of the cells that they touch and of the book.
use Rattle.std.specs.Prelude.{◌≡◌, ◌<◌, ℕ, IsTrue, IsFalse, [], ◌∷◌}
use Rattle.k_types.specs.declared.event.Event.TheVariants.{Done}
use Rattle.k_types.specs.declared.event.Reply.{Reply}
use Rattle.k_types.specs.declared.names.CellPhase.TheVariants.{Idle}
use Rattle.k_types.specs.declared.names.Heap.TheVariants.{User}
use Rattle.k_types.specs.declared.names.Pid.{Pid}
use Rattle.k_types.specs.declared.op.Op.{Op}
use Rattle.k_types.specs.Agree.{BookValue, CellValue, book_shown_by}
use Rattle.k_types.specs.Cells.{BookPart, Cell, CellPart}
use Rattle.k_types.specs.Effects.{step}
use Rattle.k_types.specs.Names.{among, heap_eq}
use Rattle.k_types.specs.State.{State}
use Rattle.k_types.specs.Steps.{IsLegalHistory, IsPossible, in_range, state_after, waits_for_orphans}
use Rattle.k_types.specs.Trace.{Trace, process_count}
use Rattle.k_types.specs.TraceRules.{AreLimits}
use Rattle.k_tie.specs.Values.{JournalValue, NoteValue}
use Rattle.k_laws.specs.BookChanges.{owner_in}
use Rattle.k_agree.specs.Agreement.{AreTotals, BookShows}
use Rattle.k_agree.specs.Committing.{NotedCell}
use Rattle.k_agree.specs.Meeting.{HasMet}
use Rattle.k_laws.specs.Answers.{reply_in}
use Rattle.k_laws.specs.BookAfter.{book_after}
use Rattle.k_laws.specs.CellAfter.{cell_after}
use Rattle.k_laws.specs.Touches.{other_cells_in}
use Rattle.k_agree.specs.Shown.{ShowsIdle, idle_part, part_alone, two_parts}

-- the operation touches no cell but the process's own, is answered so, and makes of the cell's part and of the book's the second of each
pub record GivesAlone (trace : Trace) (pid : Pid) (op : Op) (said : Reply) (before after : CellPart) (b k : BookPart) : Type 0 where
  pub touched : other_cells_in trace b before pid.0 op ≡ []
  pub answered : said ≡ reply_in trace b (part_alone before) pid.0 op
  pub own : after ≡ cell_after trace b (part_alone before) (Done pid op said) (User pid)
  pub book : k ≡ book_after trace b (part_alone before) (Done pid op said)

-- the operation touches the process's own cell and the other, is answered so, and makes of their parts and of the book's the second
-- of each
pub record GivesBoth (trace : Trace) (pid : Pid) (op : Op) (said : Reply) (cell : Cell) (before after other new_other : CellPart) (b k : BookPart) : Type 0 where
  pub apart : IsFalse (heap_eq (User pid) cell)
  pub touched : other_cells_in trace b before pid.0 op ≡ cell ∷ []
  pub answered : said ≡ reply_in trace b (two_parts (User pid) before other) pid.0 op
  pub own : after ≡ cell_after trace b (two_parts (User pid) before other) (Done pid op said) (User pid)
  pub second : new_other ≡ cell_after trace b (two_parts (User pid) before other) (Done pid op said) cell
  pub book : k ≡ book_after trace b (two_parts (User pid) before other) (Done pid op said)

-- the process is one of the trace's and lives, and the operation names what the trace declares and waits for no orphan
pub record MayAct (trace : Trace) (st : State) (p : ℕ) (op : Op) : Type 0 where
  pub known : p < process_count trace
  pub lives : IsFalse (among p st.ended)
  pub in_range : IsTrue (in_range trace op)
  pub waits : IsFalse (waits_for_orphans op)

-- who owns the segments is as before, by the homes and by what the book shows
pub record KeepsOwners (trace : Trace) (old new : BookValue) : Type 0 where
  pub homes : new.homes ≡ old.homes
  pub owners : owner_in trace (book_shown_by new) ≡ owner_in trace (book_shown_by old)

-- cell and book show the state, and their values are changed as the operation in the own cell asks
pub record MovesAlone (trace : Trace) (st : State) (pid : Pid) (op : Op) (said : Reply) (v w : CellValue) (b k : BookValue) : Type 0 where
  pub may : MayAct trace st pid.0 op
  pub cell : ShowsIdle trace st (User pid) v
  pub book : BookShows trace st b
  pub gives : GivesAlone trace pid op said (idle_part v) (idle_part w) (book_shown_by b) (book_shown_by k)
  pub idle : w.collection ≡ Idle
  pub owners : KeepsOwners trace b k

-- cells and book show the state, and their values are changed as the operation that touches both cells asks
pub record MovesBoth (trace : Trace) (st : State) (pid : Pid) (op : Op) (said : Reply) (cell : Cell) (v w u x : CellValue) (b k : BookValue) : Type 0 where
  pub may : MayAct trace st pid.0 op
  pub own : ShowsIdle trace st (User pid) v
  pub other : ShowsIdle trace st cell u
  pub book : BookShows trace st b
  pub gives : GivesBoth trace pid op said cell (idle_part v) (idle_part w) (idle_part u) (idle_part x) (book_shown_by b) (book_shown_by k)
  pub idle : w.collection ≡ Idle
  pub other_idle : x.collection ≡ Idle
  pub owners : KeepsOwners trace b k

-- the operation is possible with this reply, and cell and book show the state to which it leads
pub record HasMoved (trace : Trace) (st : State) (pid : Pid) (op : Op) (said : Reply) (w : CellValue) (k : BookValue) : Type 0 where
  pub possible : IsPossible trace st (Done pid op said)
  pub cell : ShowsIdle trace (step trace st (Done pid op said)) (User pid) w
  pub book : BookShows trace (step trace st (Done pid op said)) k

-- the operation is possible with this reply, and both cells and the book show the state to which it leads
pub record HasMovedBoth (trace : Trace) (st : State) (pid : Pid) (op : Op) (said : Reply) (cell : Cell) (w x : CellValue) (k : BookValue) : Type 0 where
  pub possible : IsPossible trace st (Done pid op said)
  pub own : ShowsIdle trace (step trace st (Done pid op said)) (User pid) w
  pub other : ShowsIdle trace (step trace st (Done pid op said)) cell x
  pub book : BookShows trace (step trace st (Done pid op said)) k

-- the cell with its note and its value
abbrev pub noted : Cell → NoteValue → CellValue → NotedCell
noted cell note value = record { cell = cell; note = note; value = value }

-- what stands before an operation in the own cell is appended: the journal is legal and has its totals, the cell has met it, and its
-- changed value and the book's are what the operation asks
pub record CommitsAlone (trace : Trace) (journal : JournalValue) (note : NoteValue) (pid : Pid) (op : Op) (said : Reply) (v w : CellValue) (b k : BookValue) : Type 0 where
  pub limits : AreLimits trace
  pub legal : IsLegalHistory trace journal.list
  pub totals : AreTotals trace journal
  pub met : HasMet trace journal (User pid) note
  pub settled : w.tail ≡ []
  pub moves : MovesAlone trace (state_after trace journal.list) pid op said v w b k

-- the same for an operation that touches both cells
pub record CommitsBoth (trace : Trace) (journal : JournalValue) (note other_note : NoteValue) (pid : Pid) (op : Op) (said : Reply) (cell : Cell) (v w u x : CellValue) (b k : BookValue) : Type 0 where
  pub limits : AreLimits trace
  pub legal : IsLegalHistory trace journal.list
  pub totals : AreTotals trace journal
  pub met : HasMet trace journal (User pid) note
  pub other_met : HasMet trace journal cell other_note
  pub settled : w.tail ≡ []
  pub other_settled : x.tail ≡ []
  pub moves : MovesBoth trace (state_after trace journal.list) pid op said cell v w u x b k
