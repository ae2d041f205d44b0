use Rattle.std.proofs.Common.{◌≡◌}
use Rattle.k_measure.proofs.exits.drain_rounds.Given as goal

abbrev pub invariant-loop-round : goal.invariant-loop-round
invariant-loop-round g l = l.table.room ≡ l.fn.room
