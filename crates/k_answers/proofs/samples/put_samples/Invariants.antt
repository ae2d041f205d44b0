use Rattle.std.proofs.Common.{◌≡◌, [], map, take}
use Rattle.k_words.specs.Words.{text_of}
use Rattle.k_text.specs.Writing.{HasWritten}
use Rattle.k_answers.specs.Samples.{sample_words}
use Rattle.k_answers.proofs.samples.put_samples.Given as goal

abbrev pub invariant-loop-sample : goal.invariant-loop-sample
invariant-loop-sample g l = record {
  written : HasWritten (g.K.Sink.Holds l.fn.out) (g.K.Sink.Holds l.out) (g.K.Sink.faults l.fn.out) (g.K.Sink.faults l.out) (text_of (map sample_words (take l.sample-index l.samples)));
  empty : l.line ≡ [];
}
