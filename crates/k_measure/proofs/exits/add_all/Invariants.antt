use Rattle.std.proofs.Common.{◌≡◌, ◌≤◌}
use Rattle.k_measure.proofs.exits.add_all.Given as goal

abbrev pub invariant-loop-target : goal.invariant-loop-target
invariant-loop-target l = (l.table.room ≡ l.room) × (l.new ≤ l.target-index)
