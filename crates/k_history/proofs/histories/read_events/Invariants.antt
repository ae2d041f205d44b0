use Rattle.std.proofs.Common.{◌≡◌, ◌+◌, ◌≤◌, length}
use Rattle.k_words.specs.Words.{lines_of}
use Rattle.k_reports.specs.Histories.{events_of_lines}
use Rattle.k_history.proofs.Lines.{onto_all}
use Rattle.k_history.proofs.histories.read_events.Given as goal

abbrev pub invariant-loop-rest : goal.invariant-loop-rest
invariant-loop-rest l = record {
  same : l.names ≡ l.initial.names;
  read : events_of_lines l.names 2 (lines_of l.bytes) ≡ onto_all l.events.items (events_of_lines l.names l.number (lines_of l.rest));
  few : l.number + length l.rest ≤ length l.bytes + 2;
}

abbrev pub decreases-loop-rest : goal.decreases-loop-rest
decreases-loop-rest l = length l.rest
