use Rattle.std.proofs.Common.{◌≡◌, ◌≤◌, ◌++◌, length, take, drop}
use Rattle.k_types.specs.Steps.{done_by}
use Rattle.k_plain.proofs.complete.count_done.Given as goal

abbrev pub invariant-loop-event : goal.invariant-loop-event
invariant-loop-event l = record {
  few : l.done ≤ length l.ops;
  done : done_by l.pid.0 l.events ≡ take l.done l.ops ++ done_by l.pid.0 (drop l.event-index l.events);
}
