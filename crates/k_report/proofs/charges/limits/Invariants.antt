use Rattle.std.proofs.Common.{◌≡◌, [], map}
use Rattle.k_words.specs.Words.{text_of}
use Rattle.k_text.specs.Writing.{HasWritten}
use Rattle.k_types.specs.Numbers.{numbers_below}
use Rattle.k_text.specs.Report.{limit_charge_line}
use Rattle.k_report.proofs.charges.limits.Given as goal

abbrev pub invariant-loop-at : goal.invariant-loop-at
invariant-loop-at g l = record {
  written : HasWritten (g.K.Sink.Holds l.fn.out) (g.K.Sink.Holds l.out) (g.K.Sink.faults l.fn.out) (g.K.Sink.faults l.out) (text_of (map (limit_charge_line l.names (g.V.View.trace l.view) (g.V.View.state l.view)) (numbers_below l.at)));
  empty : l.line ≡ [];
}
