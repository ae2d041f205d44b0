use Rattle.std.proofs.Common.{◌≡◌, ◌≤◌, length, vec_capacity}
use Rattle.k_measure.specs.Inside.{AreNew}
use Rattle.k_measure.proofs.heap.make.Given as goal

abbrev pub invariant-loop-made : goal.invariant-loop-made
invariant-loop-made l = record {
  len : length l.bodies.items ≡ l._made;
  room : l.size ≤ vec_capacity l.bodies;
  new : AreNew l.bodies.items;
}
