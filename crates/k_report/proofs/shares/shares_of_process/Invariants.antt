use Rattle.std.proofs.Common.{◌≡◌, []}
use Rattle.std.specs.List.{flat_map}
use Rattle.k_words.specs.Words.{text_of}
use Rattle.k_text.specs.Writing.{HasWritten}
use Rattle.k_types.specs.Numbers.{numbers_below}
use Rattle.k_types.specs.State.{has_share}
use Rattle.k_text.specs.Report.{share_lines}
use Rattle.k_report.proofs.shares.shares_of_process.Given as goal

abbrev pub invariant-loop-id : goal.invariant-loop-id
invariant-loop-id g l = record {
  written : HasWritten (g.K.Sink.Holds l.fn.out) (g.K.Sink.Holds l.out) (g.K.Sink.faults l.fn.out) (g.K.Sink.faults l.out) (text_of (flat_map (λ s. share_lines l.names l.pid.0 s (has_share (g.V.View.state l.view).shares l.pid.0 s)) (numbers_below l.id)));
  empty : l.line ≡ [];
}
