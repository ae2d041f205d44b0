use Rattle.std.proofs.Common.{◌≡◌, ◌∷◌, [], map, take}
use Rattle.k_words.specs.Words.{text_of}
use Rattle.k_text.specs.Writing.{HasWritten}
use Rattle.k_text.specs.Shown.{exits_of}
use Rattle.k_text.specs.Named.{heap_word, name_word}
use Rattle.k_report.proofs.exits.exits_of_heap.Given as goal

abbrev pub invariant-loop-i : goal.invariant-loop-i
invariant-loop-i g l = record {
  written : HasWritten (g.K.Sink.Holds l.fn.out) (g.K.Sink.Holds l.out) (g.K.Sink.faults l.fn.out) (g.K.Sink.faults l.out) (text_of (map (λ n. heap_word l.names l.heap ∷ name_word l.names n ∷ []) (take l.i (exits_of (g.V.View.state l.view).exits l.heap))));
  empty : l.line ≡ [];
}
