use Rattle.std.proofs.Common.{◌≡◌, ◌≤◌, length, vec_capacity}
use Rattle.k_locks.proofs.locks.lock_processes.Given as goal

abbrev pub invariant-loop-process : goal.invariant-loop-process
invariant-loop-process g l = record {
  count : length l.locks.items ≡ length l.yielded;
  room : length l.fn.processes.items ≤ vec_capacity l.locks;
}
