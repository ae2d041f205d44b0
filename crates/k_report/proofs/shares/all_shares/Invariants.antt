use Rattle.std.proofs.Common.{◌≡◌, []}
use Rattle.std.specs.List.{flat_map}
use Rattle.k_words.specs.Words.{text_of}
use Rattle.k_text.specs.Writing.{HasWritten}
use Rattle.k_types.specs.Numbers.{numbers_below}
use Rattle.k_text.specs.Report.{shares_of_process}
use Rattle.k_report.proofs.shares.all_shares.Given as goal

abbrev pub invariant-loop-pid : goal.invariant-loop-pid
invariant-loop-pid g l = record {
  written : HasWritten (g.K.Sink.Holds l.fn.out) (g.K.Sink.Holds l.out) (g.K.Sink.faults l.fn.out) (g.K.Sink.faults l.out) (text_of (flat_map (shares_of_process l.names (g.V.View.trace l.view) (g.V.View.state l.view)) (numbers_below l.pid)));
  empty : l.line ≡ [];
}
