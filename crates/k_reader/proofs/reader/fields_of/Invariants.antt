use Rattle.std.proofs.Common.{◌≡◌, ◌++◌, drop, map}
use Rattle.k_words.specs.Words.{words_of}
use Rattle.k_trace.specs.Judgement.{field_of}
use Rattle.k_reader.proofs.reader.fields_of.Given as goal

abbrev pub invariant-loop-place : goal.invariant-loop-place
invariant-loop-place l = map field_of (drop 2 (words_of l.line)) ≡ l.fields.items ++ map field_of (drop l.place (words_of l.line))
