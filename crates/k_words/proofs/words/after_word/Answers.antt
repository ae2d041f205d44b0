use Rattle.k_words.proofs.Lines.{word_before, last_word}
use Rattle.k_words.proofs.words.after_word.Goals as goal

pub returns-then-end-line-clause-some : goal.returns-then-end-line-clause-some
returns-then-end-line-clause-some c = word_before c.args.line.now c.find-end.result c.find-end.ensures c.if-end-line.true

pub returns-else-end-line-clause-none : goal.returns-else-end-line-clause-none
returns-else-end-line-clause-none c = last_word c.args.line.now c.find-end.result c.find-end.ensures c.if-end-line.false
