use Rattle.k_exit.proofs.Links.{IsWalk}
use Rattle.k_exit.proofs.chains.find_in.Given as goal

abbrev pub invariant-loop-next : goal.invariant-loop-next
invariant-loop-next l = IsWalk l.items l.heads l.target l.next

abbrev pub decreases-loop-next : goal.decreases-loop-next
decreases-loop-next l = l.next
