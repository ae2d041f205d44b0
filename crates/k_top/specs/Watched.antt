-- A run beside a watcher, and the samples that it took.
use Rattle.std.specs.Prelude.{◌≡◌, ℕ, ◌+◌, ◌≤◌, List, length}
use Rattle.atomic_table.specs.Seated.{TableId}
use Rattle.k_trace.specs.Named.{NamedTrace}
use Rattle.k_run.specs.k_outcome.Ends.{EndValue, journal_of}
use Rattle.k_run.specs.k_watch.declared.sample.Sample.{Sample}
use Rattle.k_run.specs.k_watch.Numbers.{numbers_after}
use Rattle.k_run.specs.k_watch.Samples.{IsLast, IsRising}
use Rattle.k_run.specs.k_watch.Shown.{AllTellOf}
use Rattle.k_run.specs.k_watch.Values.{WatcherValue}
use Rattle.k_run.specs.Runs.{IsRunOf}

-- the watcher is of the cell and has taken so many samples, which the list has too, in which the numbers of events never fall; and there is
-- room for one more
pub record HasTaken (count : ℕ) (cell : TableId) (watcher : WatcherValue) (samples : List Sample) (capacity : ℕ) : Type 0 where
  pub cell_is : watcher.cell ≡ cell
  pub same : samples ≡ watcher.samples
  pub taken : length samples ≡ count
  pub rising : IsRising samples
  pub room : count + 1 ≤ capacity

-- this is the end of a run of the trace. Of so many samples and one more each is the machine's three numbers after the first events of the
-- journal, as many as it says; these never fall, and the last sample has all of them
pub record IsWatchedRunOf (named : NamedTrace) (count : ℕ) (end : EndValue) (samples : List Sample) : Type 0 where
  pub run : IsRunOf named end
  pub taken : length samples ≡ count + 1
  pub each : AllTellOf named.trace (journal_of end) samples
  pub rising : IsRising samples
  pub last : IsLast (numbers_after named.trace (journal_of end)) samples
