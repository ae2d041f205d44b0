use Rattle.std.proofs.Common.{◌≡◌, length}
use Rattle.k_words.specs.Words.{words_of, are_words}
use Rattle.k_words.proofs.words.are_words.Given as goal

abbrev pub invariant-loop-after : goal.invariant-loop-after
invariant-loop-after l = are_words (words_of l.fn.line) ≡ are_words (words_of l.rest)

abbrev pub decreases-loop-after : goal.decreases-loop-after
decreases-loop-after l = length l.rest
