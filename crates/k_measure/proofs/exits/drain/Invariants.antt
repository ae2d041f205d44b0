use Rattle.std.proofs.Common.{◌≡◌, length}
use Rattle.k_measure.proofs.exits.drain.Given as goal

abbrev pub invariant-loop-link : goal.invariant-loop-link
invariant-loop-link l = l.table.room ≡ l.fn.table.room

abbrev pub decreases-loop-link : goal.decreases-loop-link
decreases-loop-link l = length l.table.items
