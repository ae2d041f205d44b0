use Rattle.std.proofs.Common.{◌≡◌, ◌+◌, ◌≤◌, length, Some}
use Rattle.std.specs.Prelude.{[]}
use Rattle.k_types.specs.Trace.{process_count, trace_of}
use Rattle.k_audit.specs.Reading.{is_whole, read_lines}
use Rattle.k_audit.specs.Verdicts.{fed_lines}
use Rattle.k_audit.proofs.reader.Reader.take_lines.Given as goal

abbrev pub invariant-loop-rest : goal.invariant-loop-rest
invariant-loop-rest l = record {
  read : read_lines l.names (trace_of l.setup [] []) (is_whole l.bytes) (Some l.fn.self) 1 (fed_lines l.bytes)
      ≡ read_lines l.names (trace_of l.setup [] []) (is_whole l.rest) (Some l.self) l.number (fed_lines l.rest);
  sized : length l.self.snap.state.registers ≡ process_count (trace_of l.setup [] []);
  few : l.number + length l.rest ≤ length l.bytes + 1;
}

abbrev pub decreases-loop-rest : goal.decreases-loop-rest
decreases-loop-rest l = length l.rest
