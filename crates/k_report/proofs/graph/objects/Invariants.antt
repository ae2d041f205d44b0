use Rattle.std.proofs.Common.{◌≡◌, ◌-◌, [], length, map}
use Rattle.k_types.specs.Owners.{owner_of}
use Rattle.k_words.specs.Words.{text_of}
use Rattle.k_text.specs.Writing.{HasWritten}
use Rattle.k_text.specs.Report.{object_line}
use Rattle.k_report.proofs.Objects.{up_to_name}
use Rattle.k_report.proofs.graph.objects.Given as goal

abbrev pub invariant-loop-name : goal.invariant-loop-name
invariant-loop-name g l = record {
  written : HasWritten (g.K.Sink.Holds l.fn.out) (g.K.Sink.Holds l.out) (g.K.Sink.faults l.fn.out) (g.K.Sink.faults l.out) (text_of (map (object_line l.names (owner_of (g.V.View.trace l.view) (g.V.View.state l.view))) (up_to_name l.after (g.V.View.state l.view).objects)));
  empty : l.line ≡ [];
}

abbrev pub decreases-loop-name : goal.decreases-loop-name
decreases-loop-name g l = length (g.V.View.state l.view).objects - length (up_to_name l.after (g.V.View.state l.view).objects)
