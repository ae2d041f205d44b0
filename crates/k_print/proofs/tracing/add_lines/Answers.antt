use Rattle.k_print.proofs.Spelled.{lines_next}
use Rattle.k_print.proofs.tracing.add_lines.Goals as goal

pub loop-i-preserved : goal.loop-i-preserved
loop-i-preserved c = record {
  empty = c.add_line.ensures.empty;
  added = lines_next c.args.names.now c.args.end.now.events c.loop-i.i c.event.result.now _ _ _ c.event.ensures.there c.loop-i.invariant.added c.in_ok-add_line.ensures.added;
}
