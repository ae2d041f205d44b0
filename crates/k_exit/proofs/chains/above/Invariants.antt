use Rattle.k_exit.specs.Chains.{IsClimb}
use Rattle.k_exit.proofs.chains.above.Given as goal

abbrev pub invariant-loop-next : goal.invariant-loop-next
invariant-loop-next l = IsClimb l.items l.heads l.fn.end l.fn.chain l.fn.i l.found l.next

abbrev pub decreases-loop-next : goal.decreases-loop-next
decreases-loop-next l = l.next
