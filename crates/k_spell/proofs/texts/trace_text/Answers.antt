use Rattle.k_trace.specs.Meaning.{meaning_of}
use Rattle.k_spell.proofs.Added.{whole_text}
use Rattle.k_spell.proofs.texts.trace_text.Goals as goal

pub returns : goal.returns
returns c =
    whole_text (meaning_of c.args.trace.now) _ _ _ _ _ _ _ c.new-bytes.ensures.items c.in_ok-add_heading.ensures c.in_ok-add_types.ensures (rw c.deref.ensures.value at c.in_ok-add_limits.ensures)
    (rw c.deref-2.ensures.value at c.in_ok-add_procs.ensures) c.in_ok-add_shared.ensures c.in_ok-add_operations.ensures
