use Rattle.k_trace.specs.Spelling.{op_words}
use Rattle.k_spell.proofs.Added.{line_behind}
use Rattle.k_spell.proofs.lines.push_operation.Goals as goal

pub returns-clause-text : goal.returns-clause-text
returns-clause-text c =
    line_behind _ _ _ (op_words c.args.names.now c.args.op.now) (rw (c.requires.empty, c.proc_name.ensures.name) at c.push_text.ensures) c.push_op.ensures.text
