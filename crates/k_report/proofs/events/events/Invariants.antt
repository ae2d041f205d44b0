use Rattle.std.proofs.Common.{◌≡◌, [], map, take}
use Rattle.k_words.specs.Words.{text_of}
use Rattle.k_text.specs.Writing.{HasWritten}
use Rattle.k_text.specs.EventLines.{event_words}
use Rattle.k_report.proofs.events.events.Given as goal

abbrev pub invariant-loop-i : goal.invariant-loop-i
invariant-loop-i g l = record {
  written : HasWritten (g.K.Sink.Holds l.fn.out) (g.K.Sink.Holds l.out) (g.K.Sink.faults l.fn.out) (g.K.Sink.faults l.out) (text_of (map (event_words l.names) (take l.i (g.V.View.events l.view))));
  empty : l.line ≡ [];
}
