use Rattle.std.proofs.Common.{◌≡◌, ◌+◌, take}
use Rattle.k_types.specs.declared.names.Name.{Name}
use Rattle.k_types.specs.Counted.{counted}
use Rattle.k_measure.specs.Counts.{occurs}
use Rattle.k_measure.proofs.entries.down_all.Given as goal

abbrev pub invariant-loop-target : goal.invariant-loop-target
invariant-loop-target l = (n : Name) → counted l.table.items n + occurs (take l.target-index l.targets) n ≡ counted l.fn.table.items n
