use Rattle.std.proofs.Common.{◌≡◌, ◌+◌}
use Rattle.k_measure.specs.Inside.{KeepsExits}
use Rattle.k_measure.proofs.foreign.link_out.Given as goal

abbrev pub invariant-loop-i : goal.invariant-loop-i
invariant-loop-i l = KeepsExits l.exits.items l.segment × (l.exits.room ≡ l.count + 1)
