use Rattle.std.proofs.Common.{◌≡◌, ◌+◌, ◌<◌, drop, length}
use Rattle.std.specs.List.{AllByRecursion, flat_map}
use Rattle.k_types.specs.Trace.{process_count}
use Rattle.k_spawn.specs.Translated.{with_operations}
use Rattle.k_spawn.specs.Translation.{ending}
use Rattle.k_spawn.proofs.translation.add_endings.Given as goal

abbrev pub invariant-loop-child : goal.invariant-loop-child
invariant-loop-child l = record {
  same : with_operations l.operations l.pid.0 (flat_map (λ it. ending l.script it.0) (drop l.child-index l.reaped)) ≡ with_operations l.fn.operations l.pid.0 (flat_map (λ it. ending l.script it.0) l.reaped);
  count : length l.operations.operations ≡ length l.fn.operations.operations;
  known : AllByRecursion (λ it. it.0 < process_count l.script.header.trace + length l.script.parents) (drop l.child-index l.reaped);
}
