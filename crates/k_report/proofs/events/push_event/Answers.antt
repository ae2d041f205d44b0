use Rattle.k_text.specs.EventLines.{event_words, reply_words}
use Rattle.k_report.proofs.Known.{named_op, named_heap}
use Rattle.k_report.proofs.LineLemmas.{operation_line}
use Rattle.k_trace.specs.Spelling.{op_words}
use Rattle.k_report.proofs.events.push_event.Goals as goal

pub push_op-requires-clause-known : goal.push_op-requires-clause-known
push_op-requires-clause-known g c = named_op _ _ c.in-Done.op c.requires.named (rw c.in-Done.is at c.requires.known).1

pub heap_name-requires : goal.heap_name-requires
heap_name-requires g c = named_heap _ _ c.in-Ended.heap c.requires.named (rw c.in-Ended.is at c.requires.known)

pub returns-in-Done-clause-text : goal.returns-in-Done-clause-text
unfolding event_words
returns-in-Done-clause-text g c =
    rw c.in-Done.is
    (operation_line _ _ _ _ _ (op_words c.args.names.now c.in-Done.op) (reply_words c.args.names.now c.in-Done.reply)
    (rw (c.requires.empty, c.proc_name.ensures.name) at c.push_text.ensures) c.push_op.ensures.text c.push_word.ensures c.push_reply.ensures.text)
