use Rattle.std.proofs.Common.{◌≡◌, []}
use Rattle.std.specs.List.{flat_map}
use Rattle.k_words.specs.Words.{text_of}
use Rattle.k_text.specs.Writing.{HasWritten}
use Rattle.k_types.specs.Numbers.{numbers_below}
use Rattle.k_types.specs.Owners.{shared}
use Rattle.k_text.specs.Report.{exits_of_heap}
use Rattle.k_report.proofs.exits.exits_of_shared_heaps.Given as goal

abbrev pub invariant-loop-id : goal.invariant-loop-id
invariant-loop-id g l = record {
  written : HasWritten (g.K.Sink.Holds l.fn.out) (g.K.Sink.Holds l.out) (g.K.Sink.faults l.fn.out) (g.K.Sink.faults l.out) (text_of (flat_map (λ s. exits_of_heap l.names (g.V.View.state l.view) (shared s)) (numbers_below l.id)));
  empty : l.line ≡ [];
}
