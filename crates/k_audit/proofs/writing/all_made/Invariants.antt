use Rattle.std.proofs.Common.{◌≡◌, [], map}
use Rattle.k_types.specs.Numbers.{numbers_below}
use Rattle.k_words.specs.Words.{text_of}
use Rattle.k_text.specs.Writing.{HasWritten}
use Rattle.k_audit.specs.Snapshots.{made_line}
use Rattle.k_audit.proofs.writing.all_made.Given as goal

abbrev pub invariant-loop-seg : goal.invariant-loop-seg
invariant-loop-seg g l = record {
  written : HasWritten (g.K.Sink.Holds l.fn.out) (g.K.Sink.Holds l.out) (g.K.Sink.faults l.fn.out) (g.K.Sink.faults l.out) (text_of (map (made_line l.names (g.V.View.state l.view)) (numbers_below l.seg)));
  empty : l.line ≡ [];
}
