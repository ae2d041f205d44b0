use Rattle.std.proofs.Common.{◌≡◌, drop}
use Rattle.std.specs.List.{list_all}
use Rattle.k_words.specs.Words.{words_of}
use Rattle.k_trace.specs.Judgement.{is_field}
use Rattle.k_reader.proofs.reader.are_fields.Given as goal

abbrev pub invariant-loop-place : goal.invariant-loop-place
invariant-loop-place l = list_all is_field (drop 2 (words_of l.line)) ≡ list_all is_field (drop l.place (words_of l.line))
