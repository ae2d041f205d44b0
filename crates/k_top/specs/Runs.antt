-- The run of the trace that the source gave, beside a watcher or with its work.
use Rattle.std.specs.Prelude.{◌≡◌, ℕ, ◌≤◌, List, length}
use Rattle.k_trace.specs.Named.{NamedTrace}
use Rattle.k_run.specs.k_outcome.Ends.{EndValue, journal_of}
use Rattle.k_run.specs.Runs.{IsRunOf}
use Rattle.k_top.specs.Watched.{IsWatchedRunOf}
use Rattle.k_run.specs.k_watch.declared.sample.Sample.{Sample}
use Rattle.k_answers.specs.k_work.Crediting.{AreSmall}
use Rattle.k_answers.specs.k_work.Tables.{Work, work_of}
use Rattle.k_status.specs.Ends.{Input}
use Rattle.k_status.specs.Readings.{GaveTrace}
use Rattle.k_run.specs.Commands.{IsNamedEnd}

-- The source gave a trace, and this is the end of a run of it beside a watcher, which took so many samples and one more.
pub record HasWatchedRun (input : Input) (count : ℕ) (end : EndValue) (samples : List Sample) : Type 0 where
  pub trace : NamedTrace
  pub gave : GaveTrace input trace
  pub watched : IsWatchedRunOf trace count end samples

-- The source gave a trace, and this is the end of a run of it, and the table of its work.
pub record HasWorkedRun (input : Input) (end : EndValue) (table : Work) : Type 0 where
  pub trace : NamedTrace
  pub gave : GaveTrace input trace
  pub run : IsRunOf trace end
  pub work : table ≡ work_of trace.trace (journal_of end)
  pub small : AreSmall table

-- The end and the table can be written: there is a name for each row, and the sums of the rows are small.
pub record CanBeWritten (end : EndValue) (table : Work) : Type 0 where
  pub named : IsNamedEnd end
  pub rows : length table.procs ≡ length end.names.procs
  pub few : length table.procs ≤ 64
  pub small : AreSmall table
