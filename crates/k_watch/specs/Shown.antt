-- What the samples of a watched run say.
use Rattle.std.specs.Prelude.{◌≡◌, ◌≤◌, List, [], ◌∷◌, ◌++◌, length, take, Option, Some, None}
use Rattle.atomic_table.specs.Seated.{TableId}
use Rattle.k_types.specs.declared.event.Event.{Event}
use Rattle.k_types.specs.Steps.{state_after}
use Rattle.k_types.specs.Trace.{Trace}
use Rattle.k_types.specs.TraceRules.{KeepsRules}
use Rattle.k_agree.specs.Agreement.{BookShows}
use Rattle.k_book.specs.Books.{BookRecord}
use Rattle.k_book.specs.Machine.{IsBookOf}
use Rattle.k_commit.specs.Standing.{BookStands}
use Rattle.k_watch.specs.declared.sample.Sample.{Sample}
use Rattle.k_watch.specs.Samples.{AllBelow, newest_of}
use Rattle.k_watch.specs.Numbers.{numbers_after}
use Rattle.k_watch.specs.Values.{PenValue, WatcherValue}

-- the sample is the machine's three numbers after the first events of the history, as many as it says
abbrev pub TellsOf : Trace → List Event → Sample → Type 0
TellsOf trace history s = (s.events ≤ length history) × (s ≡ numbers_after trace (take s.events history))

-- so is each of these
abbrev pub AllTellOf : Trace → List Event → List Sample → Type 0
AllTellOf trace history [] = Unit {0}
AllTellOf trace history (s ∷ ss) = TellsOf trace history s × AllTellOf trace history ss

-- there is a pen exactly where there is a cell to watch, and it is of that cell; each sample that was published tells of the history,
-- and the last one has all events
abbrev pub IsShown : Option TableId → Trace → List Event → Option PenValue → Type 0
IsShown None trace history None = Unit {0}
IsShown None trace history (Some pen) = ⊥
IsShown (Some cell) trace history None = ⊥
IsShown (Some cell) trace history (Some pen) = (pen.cell ≡ cell) × AllTellOf trace history pen.samples × (newest_of pen.samples ≡ length history)

-- the same where the journal may have more events than were published last
abbrev pub WasShown : Option TableId → Trace → List Event → Option PenValue → Type 0
WasShown None trace history None = Unit {0}
WasShown None trace history (Some pen) = ⊥
WasShown (Some cell) trace history None = ⊥
WasShown (Some cell) trace history (Some pen) = (pen.cell ≡ cell) × AllTellOf trace history pen.samples × (newest_of pen.samples ≤ length history)

-- a run: its trace, and the cell by which it is watched, if it is
pub record Showing : Type 0 where
  pub trace : Trace
  pub watched : Option TableId

-- the book stands, and what was published tells of its journal
pub record CanShow (run : Showing) (pen : Option PenValue) (b : BookRecord) : Type 0 where
  pub stands : BookStands run.trace b
  pub shown : WasShown run.watched run.trace b.journal.list pen

-- the book of a run that is over shows the machine after its journal, of which all that was published tells, and the watcher is of the
-- pen's cell
pub record CanShowEnd (trace : Trace) (b : BookRecord) (pen : PenValue) (watcher : WatcherValue) : Type 0 where
  pub rules : KeepsRules trace
  pub of_trace : IsBookOf trace b
  pub shows : BookShows trace (state_after trace b.journal.list) b.value
  pub shown : WasShown (Some watcher.cell) trace b.journal.list (Some pen)

-- the watcher has taken one sample more, which is the machine's three numbers after the whole history and has no fewer events than those
-- before, and each sample that it has taken tells of the history
pub record HasWatched (trace : Trace) (history : List Event) (old new : WatcherValue) (last : Sample) : Type 0 where
  pub cell : new.cell ≡ old.cell
  pub taken : new.samples ≡ old.samples ++ last ∷ []
  pub rises : AllBelow last.events old.samples
  pub each : AllTellOf trace history new.samples
  pub last_is : last ≡ numbers_after trace history
