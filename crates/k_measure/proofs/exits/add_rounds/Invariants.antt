use Rattle.std.proofs.Common.{◌≡◌, ◌≤◌, ◌*◌}
use Rattle.k_measure.proofs.exits.add_rounds.Given as goal

abbrev pub invariant-loop-round : goal.invariant-loop-round
invariant-loop-round l = (l.table.room ≡ l.room) × (l.new ≤ l._round * 1000000)
