use Rattle.std.proofs.Common.{length}
use Rattle.k_space.specs.Chains.{before_at, head_at, linked, serial_at}
use Rattle.k_space.proofs.ChainWalks.{IsWalk}
use Rattle.k_space.proofs.chains.reach.Given as goal

abbrev pub invariant-loop-next : goal.invariant-loop-next
invariant-loop-next l = IsWalk (serial_at l.spots) (before_at l.spots) (length l.heads) (head_at l.heads) l.serial l.newer l.next

abbrev pub decreases-loop-next : goal.decreases-loop-next
decreases-loop-next l = linked (serial_at l.spots) l.next
