-- The end of a run: its setup, its journal, and the state of the machine after the journal.
use Rattle.std.specs.Prelude.{◌≡◌, ◌<◌, ◌≤◌, ◌^◌, List, length}
use Rattle.k_types.specs.declared.event.Event.{Event}
use Rattle.k_types.specs.declared.names.Heap.{Heap}
use Rattle.k_types.specs.State.{State}
use Rattle.k_types.specs.Steps.{IsLegalHistory, state_after}
use Rattle.k_types.specs.Trace.{IsHeap, Trace, process_count}
use Rattle.k_types.specs.TraceRules.{KeepsRules}
use Rattle.k_agree.specs.Agreement.{BookShows, Shows}
use Rattle.k_agree.specs.Rooms.{event_room}
use Rattle.k_book.specs.Machine.{IsBookOf}
use Rattle.k_trace.specs.Named.{DeclaredNames}
use Rattle.k_laws.specs.Setups.{AreSetupRules, setup_of}
use Rattle.k_process.specs.Over.{IsOutcome, OutcomeValue}
use Rattle.k_outcome.specs.Cells.{IsThere, cell_at}

-- the names that the trace declares, its setup, which has no operations, and the cells
pub record EndValue : Type 0 where
  pub names : DeclaredNames
  pub setup : Trace
  pub cells : OutcomeValue

-- the events of the run
abbrev pub journal_of : EndValue → List Event
journal_of e = e.cells.book.journal.list

-- the state of the machine after them
abbrev pub last_state : EndValue → State
last_state e = state_after e.setup (journal_of e)

-- the run of the trace is over, its cells and its book are these, and all events of a run of the trace can be read
pub record EndsRun (trace : Trace) (setup : Trace) (o : OutcomeValue) : Type 0 where
  pub rules : KeepsRules trace
  pub same_setup : setup ≡ setup_of trace
  pub outcome : IsOutcome trace o
  pub of_trace : IsBookOf trace o.book
  pub kept : event_room trace ≤ o.book.kept
  pub processes : length o.processes ≡ process_count trace
  pub shared : length o.shared ≡ trace.shared_heaps

-- the setup keeps its rules, the journal is a legal history and not long, all its events can be read, each heap has a cell, and each cell
-- and the book show the state after the journal
pub record IsEnd (e : EndValue) : Type 0 where
  pub rules : AreSetupRules e.setup
  pub legal : IsLegalHistory e.setup (journal_of e)
  pub few : length (journal_of e) < 2 ^ 31
  pub kept : length (journal_of e) ≤ e.cells.book.kept
  pub there : (h : Heap) → IsHeap e.setup h → IsThere e.cells h
  pub shows : (h : Heap) → IsHeap e.setup h → Shows e.setup (last_state e) h (cell_at e.cells h)
  pub book : BookShows e.setup (last_state e) e.cells.book.value
  pub of_setup : IsBookOf e.setup e.cells.book
