use Rattle.std.proofs.Common.{◌≡◌, [], not}
use Rattle.std.specs.List.{flat_map}
use Rattle.k_types.specs.Names.{among}
use Rattle.k_types.specs.Numbers.{numbers_below}
use Rattle.k_words.specs.Words.{text_of}
use Rattle.k_text.specs.Writing.{HasWritten}
use Rattle.k_audit.specs.Snapshots.{gone_line}
use Rattle.k_audit.proofs.writing.gone.Given as goal

abbrev pub invariant-loop-pid : goal.invariant-loop-pid
invariant-loop-pid g l = record {
  written : HasWritten (g.K.Sink.Holds l.fn.out) (g.K.Sink.Holds l.out) (g.K.Sink.faults l.fn.out) (g.K.Sink.faults l.out) (text_of (flat_map (λ p. gone_line l.names p (not (among p (g.V.View.state l.view).ended))) (numbers_below l.pid)));
  empty : l.line ≡ [];
}
