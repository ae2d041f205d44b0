use Rattle.std.proofs.Common.{◌≡◌, ◌≤◌, length, vec_capacity}
use Rattle.k_measure.specs.Counts.{AreBelow}
use Rattle.k_measure.proofs.names.scattered.Given as goal

abbrev pub invariant-loop-i : goal.invariant-loop-i
invariant-loop-i l = record {
  len : length l.names.items ≡ l.i;
  room : l.count ≤ vec_capacity l.names;
  below : AreBelow 5 l.names.items;
}
