use Rattle.std.proofs.Common.{Some, map, length, vec_capacity, ◌≡◌, ◌≤◌}
use Rattle.k_locks.proofs.placing.in_order.Given as goal

abbrev pub invariant-loop-place : goal.invariant-loop-place
invariant-loop-place g l = record {
  taken : map Some l.into.items ≡ l.yielded;
  room : length l.fn.places.items ≤ vec_capacity l.into;
}
