use Rattle.std.proofs.Common.{length}
use Rattle.k_state.proofs.Linked.{IsWalk}
use Rattle.k_state.proofs.links.Links.find.Given as goal

abbrev pub invariant-loop-up_to : goal.invariant-loop-up_to
invariant-loop-up_to l = IsWalk (length l.self.lasts) l.items l.heap l.target l.up_to

abbrev pub decreases-loop-up_to : goal.decreases-loop-up_to
decreases-loop-up_to l = l.up_to
