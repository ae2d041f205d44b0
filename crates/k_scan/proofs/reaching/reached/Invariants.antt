use Rattle.std.proofs.Common.{◌+◌, length}
use Rattle.k_scan.proofs.Reaches.{IsReaching}
use Rattle.k_scan.specs.Marks.{unmarked}
use Rattle.k_scan.proofs.reaching.reached.Given as goal

abbrev pub invariant-loop-waiting : goal.invariant-loop-waiting
invariant-loop-waiting l = IsReaching l.lists.setup l.lists.state l.heap l.roots l.marks l.work.items

abbrev pub decreases-loop-waiting : goal.decreases-loop-waiting
decreases-loop-waiting l = unmarked l.marks + length l.work.items
