-- What contracts see of the pen and of a watcher.
use Rattle.std.specs.Prelude.{ℕ, List, []}
use Rattle.atomic_table.specs.Seated.{TableId}
use Rattle.k_watch.specs.declared.sample.Sample.{Sample}
use Rattle.k_watch.specs.declared.view.Taken.{Taken}
use Rattle.k_watch.specs.Steps.{taken}

-- the cell, and the samples that were published
pub record PenValue : Type 0 where
  pub cell : TableId
  pub samples : List Sample

-- the cell, the samples that were taken, and the least number of events of a later one
pub record WatcherValue : Type 0 where
  pub cell : TableId
  pub samples : List Sample
  pub least : ℕ

-- a watcher as its view has it
abbrev pub watcher_value : TableId → Taken → WatcherValue
watcher_value cell own = record { cell = cell; samples = own.samples; least = own.least }

-- a watcher that has taken no sample, with that least number
abbrev pub new_watcher : TableId → ℕ → WatcherValue
new_watcher cell least = watcher_value cell (taken [] least)
