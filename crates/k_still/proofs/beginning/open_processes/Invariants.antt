use Rattle.std.proofs.Common.{length}
use Rattle.k_still.specs.Opening.{ArePending}
use Rattle.k_still.proofs.beginning.open_processes.Given as goal

abbrev pub ghost-open_process : goal.ghost-open_process
ghost-open_process g a = g.world'

abbrev pub invariant-loop-own : goal.invariant-loop-own
invariant-loop-own g l = ArePending g.world' l.setup l.ops.items l.bodies.items l.beginnings l.processes.items

abbrev pub decreases-loop-own : goal.decreases-loop-own
decreases-loop-own g l = length l.ops.items
