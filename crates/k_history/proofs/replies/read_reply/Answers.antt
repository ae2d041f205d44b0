use Rattle.std.proofs.Common.{◌∙◌, sym}
use Rattle.k_history.proofs.ReplyWords.{several_words, bare_word}
use Rattle.k_history.proofs.replies.read_reply.Goals as goal

pub returns-in-Some-2 : goal.returns-in-Some-2
returns-in-Some-2 c = several_words c.args.names.now c.args.op _ _ c.in-Some-2.field-0.now c.in-Some-2.ensures.some (rw (← c.word-first.ensures) (sym c.is.ensures ∙ c.if-is.false))

pub returns-in-None : goal.returns-in-None
returns-in-None c = bare_word c.args.names.now c.args.op _ _ c.in-None.ensures.none (rw (← c.word-first.ensures) (sym c.if-is-2.ensures))
