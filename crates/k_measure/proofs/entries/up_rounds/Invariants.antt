use Rattle.std.proofs.Common.{◌≡◌, ◌*◌, length}
use Rattle.k_types.specs.declared.names.Name.{Name}
use Rattle.k_types.specs.Counted.{counted}
use Rattle.k_measure.specs.Counts.{occurs}
use Rattle.k_measure.proofs.entries.up_rounds.Given as goal

abbrev pub invariant-loop-round : goal.invariant-loop-round
invariant-loop-round l = record {
  counts : (n : Name) → counted l.table.items n ≡ l._round * occurs l.targets n;
  empty : l._round ≡ 0 → length l.table.items ≡ 0;
  homes : l.table.homes ≡ l.fn.table.homes;
  room : l.table.room ≡ l.fn.table.room;
}
