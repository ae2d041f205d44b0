use Rattle.std.proofs.Common.{◌≡◌, [], map}
use Rattle.k_words.specs.Words.{text_of}
use Rattle.k_text.specs.Writing.{HasWritten}
use Rattle.k_types.specs.Numbers.{numbers_below}
use Rattle.k_text.specs.Report.{fault_line}
use Rattle.k_report.proofs.faults.all_faults.Given as goal

abbrev pub invariant-loop-pid : goal.invariant-loop-pid
invariant-loop-pid g l = record {
  written : HasWritten (g.K.Sink.Holds l.fn.out) (g.K.Sink.Holds l.out) (g.K.Sink.faults l.fn.out) (g.K.Sink.faults l.out) (text_of (map (fault_line l.names (g.V.View.events l.view)) (numbers_below l.pid)));
  empty : l.line ≡ [];
}
