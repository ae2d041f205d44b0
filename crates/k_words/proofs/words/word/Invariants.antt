use Rattle.std.proofs.Common.{◌≡◌, ◌-◌}
use Rattle.k_words.specs.Words.{words_of, word_at}
use Rattle.k_words.proofs.words.word.Given as goal

abbrev pub invariant-loop : goal.invariant-loop
invariant-loop l = word_at (words_of l.fn.line) l.place ≡ word_at (words_of l.rest) (l.place - l.counter)
