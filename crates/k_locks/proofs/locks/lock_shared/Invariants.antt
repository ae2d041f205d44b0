use Rattle.std.proofs.Common.{◌≡◌, ◌≤◌, length, vec_capacity}
use Rattle.k_locks.proofs.locks.lock_shared.Given as goal

abbrev pub invariant-loop-cell : goal.invariant-loop-cell
invariant-loop-cell g l = record {
  count : length l.locks.items ≡ length l.yielded;
  room : length l.fn.shared.items ≤ vec_capacity l.locks;
}
