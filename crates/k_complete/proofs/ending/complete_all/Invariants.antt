use Rattle.std.proofs.Common.{◌≡◌, ◌<◌, ℕ, Some, length, slice_get}
use Rattle.k_operate.specs.k_process.declared.process.Process.{Process}
use Rattle.k_types.specs.Complete.{IsPrefixOf}
use Rattle.k_operate.specs.k_process.Heaps.{value_of}
use Rattle.k_operate.specs.k_process.BetweenSteps.{AllStand, IsThroughWith}
use Rattle.k_complete.proofs.ending.complete_all.Given as goal

abbrev pub ghost-complete : goal.ghost-complete
ghost-complete g a = g.world'

abbrev pub invariant-loop-at : goal.invariant-loop-at
invariant-loop-at g l = record {
  stand : AllStand g.world' (value_of l.heaps);
  through : (k : ℕ) (p : Process) → k < l.at → slice_get l.heaps.processes.items k ≡ Some p → IsThroughWith g.world'.trace p.cell;
  whole : length l.heaps.processes.items ≡ l.at-end;
  grows : IsPrefixOf l.fn.heaps.book.journal.list l.heaps.book.journal.list;
}
