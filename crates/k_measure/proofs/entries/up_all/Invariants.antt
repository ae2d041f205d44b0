use Rattle.std.proofs.Common.{◌≡◌, ◌≤◌, ◌+◌, length, take}
use Rattle.k_types.specs.declared.names.Name.{Name}
use Rattle.k_types.specs.Counted.{counted}
use Rattle.k_measure.specs.Counts.{occurs}
use Rattle.k_measure.proofs.entries.up_all.Given as goal

abbrev pub invariant-loop-target : goal.invariant-loop-target
invariant-loop-target l = record {
  counts : (n : Name) → counted l.table.items n ≡ counted l.fn.table.items n + occurs (take l.target-index l.targets) n;
  items : length l.table.items ≤ length l.fn.table.items + l.target-index;
  homes : l.table.homes ≡ l.fn.table.homes;
  room : l.table.room ≡ l.fn.table.room;
}
