use Rattle.std.proofs.Common.{◌*◌, ◌≤◌, map, drop, length}
use Rattle.k_types.specs.declared.names.Pid.{Pid}
use Rattle.k_trace.specs.Meaning.{meaning_of}
use Rattle.k_filed.proofs.Follows.{Follows}
use Rattle.k_filed.proofs.running.solo.Given as goal

abbrev pub invariant-loop-pid : goal.invariant-loop-pid
invariant-loop-pid l = record {
  follows : Follows (meaning_of l.trace).trace l.state l.events.items (map (λ (pid : Pid). pid.0) (drop l.pid-index l.pid-items));
  few : length l.events.items ≤ 66 * l.pid-index;
}
