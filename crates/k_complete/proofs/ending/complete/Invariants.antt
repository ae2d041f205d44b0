use Rattle.std.proofs.Common.{◌≡◌, Some, length, slice_get}
use Rattle.k_operate.specs.k_process.declared.process.Process.{Process}
use Rattle.k_types.specs.Complete.{IsPrefixOf}
use Rattle.k_operate.specs.Adding.{known_to}
use Rattle.k_operate.specs.k_process.Heaps.{value_of}
use Rattle.k_operate.specs.k_process.BetweenSteps.{AllStand}
use Rattle.k_complete.specs.Ended.{AreKeptBut}
use Rattle.k_complete.proofs.PlacedKept.{left_of}
use Rattle.k_complete.proofs.ending.complete.Given as goal

abbrev pub ghost-next : goal.ghost-next
ghost-next g a = g.world'

abbrev pub ghost-do_at : goal.ghost-do_at
ghost-do_at g a = g.world'

abbrev pub ghost-publish_all : goal.ghost-publish_all
ghost-publish_all g a = g.world'

abbrev pub invariant-loop-op : goal.invariant-loop-op
invariant-loop-op g l = record {
  stand : AllStand g.world' (value_of l.heaps);
  count : length l.heaps.processes.items ≡ length l.fn.heaps.processes.items;
  others : AreKeptBut g.world'.trace l.fn.at l.fn.heaps.processes.items l.heaps.processes.items;
  grows : (p q : Process) → slice_get l.fn.heaps.processes.items l.fn.at ≡ Some p → slice_get l.heaps.processes.items l.fn.at ≡ Some q → IsPrefixOf (known_to p l.fn.heaps.book) (known_to q l.heaps.book);
}

abbrev pub decreases-loop-op : goal.decreases-loop-op
decreases-loop-op g l = left_of g.world'.trace (slice_get l.heaps.processes.items l.fn.at)
