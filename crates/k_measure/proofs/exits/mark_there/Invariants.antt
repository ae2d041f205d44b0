use Rattle.std.proofs.Common.{◌≡◌}
use Rattle.k_measure.proofs.exits.mark_there.Given as goal

abbrev pub invariant-loop-name : goal.invariant-loop-name
invariant-loop-name l = l.table.room ≡ l.fn.table.room
