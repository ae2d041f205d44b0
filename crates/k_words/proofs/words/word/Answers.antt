use Rattle.std.proofs.Common.{◌≡◌, ◌∙◌, ◌-◌, arith, sym, ap, ℕ}
use Rattle.k_words.specs.Words.{words_of, word_at}
use Rattle.k_words.proofs.Lines.{first_word}
use Rattle.k_words.proofs.words.word.Goals as goal

pub returns : goal.returns
returns c =
    let none : c.args.place - c.loop.counter ≡ 0 = omega arith in
    sym (c.loop.invariant ∙ ap (λ (k : ℕ). word_at (words_of c.loop.rest.now) k) none ∙ first_word c.loop.rest.now c.find.result c.find.ensures)
