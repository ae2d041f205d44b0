use Rattle.std.proofs.Common.{◌≡◌, ◌*◌, ◌+◌}
use Rattle.k_types.specs.declared.names.Name.{Name}
use Rattle.k_types.specs.Counted.{counted}
use Rattle.k_measure.specs.Counts.{occurs}
use Rattle.k_measure.proofs.entries.down_rounds.Given as goal

abbrev pub invariant-loop-round : goal.invariant-loop-round
invariant-loop-round l = (n : Name) → counted l.table.items n + l._round * occurs l.targets n ≡ 10 * occurs l.targets n
