use Rattle.std.proofs.Common.{◌≡◌, ◌+◌, ◌≤◌, length}
use Rattle.k_words.specs.Words.{lines_of}
use Rattle.k_trace.specs.Judgement.{judged_lines}
use Rattle.k_reader.proofs.reading.read_lines.Given as goal

abbrev pub invariant-loop-rest : goal.invariant-loop-rest
invariant-loop-rest l = record {
  judged : judged_lines 1 l.fn.reader (lines_of l.bytes) ≡ judged_lines l.number l.reader (lines_of l.rest);
  counted : l.number + length (lines_of l.rest) ≡ length (lines_of l.bytes) + 1;
  few : l.number + length l.rest ≤ length l.bytes + 1;
}

abbrev pub decreases-loop-rest : goal.decreases-loop-rest
decreases-loop-rest l = length l.rest
