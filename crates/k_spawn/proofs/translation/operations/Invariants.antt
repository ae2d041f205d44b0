use Rattle.std.proofs.Common.{◌≡◌, ◌+◌, drop, length}
use Rattle.std.specs.List.{AllByRecursion}
use Rattle.k_types.specs.Trace.{process_count}
use Rattle.k_spawn.specs.Translated.{IsLineOf, idle, with_lines}
use Rattle.k_spawn.proofs.translation.operations.Given as goal

abbrev pub invariant-loop-line : goal.invariant-loop-line
invariant-loop-line l = record {
  same : with_lines l.script l.operations (drop l.line-index l.script.lines) ≡ with_lines l.script (idle (process_count l.script.header.trace + length l.script.parents)) l.script.lines;
  count : length l.operations.operations ≡ process_count l.script.header.trace + length l.script.parents;
  known : AllByRecursion (IsLineOf l.script) (drop l.line-index l.script.lines);
}
