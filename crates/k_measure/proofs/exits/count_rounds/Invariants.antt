use Rattle.std.proofs.Common.{◌≤◌, ◌*◌}
use Rattle.k_measure.proofs.exits.count_rounds.Given as goal

abbrev pub invariant-loop-round : goal.invariant-loop-round
invariant-loop-round l = l.there ≤ l._round * 1000000
