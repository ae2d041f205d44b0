use Rattle.std.proofs.Common.{◌≡◌, ◌+◌, ◌-◌, ◌≤◌, ◌++◌, drop, length}
use Rattle.std.specs.Prelude.{vec_capacity}
use Rattle.k_heap.proofs.growing.copy_events.Given as goal

-- what was copied, and after it what is left, is all that was asked
abbrev pub invariant-loop-event : goal.invariant-loop-event
invariant-loop-event l = record {
  items : l.into.items ++ drop l.event-index l.from ≡ l.fn.into.items ++ l.from;
  capacity : vec_capacity l.into ≡ vec_capacity l.fn.into;
  room : length l.into.items + (length l.from - l.event-index) ≤ vec_capacity l.into;
}
