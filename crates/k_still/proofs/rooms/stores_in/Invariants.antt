use Rattle.std.proofs.Common.{◌≡◌, ◌+◌, ◌≤◌, drop}
use Rattle.k_laws.specs.Counts.{stores_in}
use Rattle.k_still.proofs.rooms.stores_in.Given as goal

abbrev pub invariant-loop-op : goal.invariant-loop-op
invariant-loop-op l = record {
  all : l.stores + stores_in (drop l.op-index l.ops) ≡ stores_in l.ops;
  few : l.stores ≤ l.op-index;
}
