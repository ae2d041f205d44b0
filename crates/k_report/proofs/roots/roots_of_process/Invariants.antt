use Rattle.std.proofs.Common.{◌≡◌, []}
use Rattle.std.specs.List.{flat_map}
use Rattle.k_words.specs.Words.{text_of}
use Rattle.k_text.specs.Writing.{HasWritten}
use Rattle.k_types.specs.Numbers.{numbers_below}
use Rattle.k_types.specs.State.{register}
use Rattle.k_text.specs.Report.{root_lines}
use Rattle.k_report.proofs.roots.roots_of_process.Given as goal

abbrev pub invariant-loop-r : goal.invariant-loop-r
invariant-loop-r g l = record {
  written : HasWritten (g.K.Sink.Holds l.fn.out) (g.K.Sink.Holds l.out) (g.K.Sink.faults l.fn.out) (g.K.Sink.faults l.out) (text_of (flat_map (λ r. root_lines l.names l.pid.0 r (register (g.V.View.state l.view).registers l.pid.0 r)) (numbers_below l.r)));
  empty : l.line ≡ [];
}
