use Rattle.std.proofs.Common.{◌≡◌, ◌+◌, ◌≤◌, length, vec_capacity}
use Rattle.k_run.specs.k_watch.Samples.{IsRising}
use Rattle.k_top.proofs.watched.take_samples.Given as goal

abbrev pub invariant-loop-taken : goal.invariant-loop-taken
invariant-loop-taken g l = record {
  cell : l.watcher.cell ≡ l.fn.watcher.cell;
  same : l.samples.items ≡ l.watcher.samples;
  count : length l.samples.items ≡ l.taken;
  rising : IsRising l.samples.items;
  room : l.count + 1 ≤ vec_capacity l.samples;
}
