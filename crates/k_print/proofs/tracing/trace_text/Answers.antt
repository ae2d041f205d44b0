use Rattle.std.proofs.Common.{[]}
use Rattle.k_types.specs.Trace.{trace_of}
use Rattle.k_spell.proofs.Added.{whole_text}
use Rattle.k_print.specs.Printed.{journal_of, named_done}
use Rattle.k_print.proofs.Spelled.{lines_behind, lines_done}
use Rattle.k_print.proofs.tracing.trace_text.Goals as goal

pub returns : goal.returns
returns c =
    whole_text (named_done (journal_of c.args.names.now c.args.setup.now c.args.end.now.events)) _ _ _ _ _ _ _ c.new-bytes.ensures.items c.in_ok-add_heading.ensures c.in_ok-add_types.ensures (rw c.deref.ensures.value at c.in_ok-add_limits.ensures)
    (rw c.deref-2.ensures.value at c.in_ok-add_procs.ensures) c.in_ok-add_shared.ensures
    (lines_behind _ _ _ _ (lines_done c.args.names.now (trace_of c.args.setup.now [] []) c.args.end.now.events c.requires.is_journal.legal) c.in_ok-add_lines.ensures)
