use Rattle.std.proofs.Common.{arith}
use Rattle.k_report.proofs.LineLemmas.{written_none, listed_next, listed_failed, listed_all}
use Rattle.k_text.specs.EventLines.{event_words, event_lines}
use Rattle.k_report.proofs.events.events.Goals as goal

pub loop-i-init : goal.loop-i-init
loop-i-init g c = record { written = written_none _ _; empty = c.requires.empty }

pub loop-i-preserved : goal.loop-i-preserved
loop-i-preserved g c = record {
  written = listed_next (event_words c.args.names.now) (g.V.View.events c.args.view.now) c.loop-i.i _ _ _ _ _ _ _ _ c.event.ensures.there c.loop-i.invariant.written c.in_ok-put_event.ensures.written;
  empty = c.put_event.ensures.empty;
}

pub returns-in_err-put_event-clause-written : goal.returns-in_err-put_event-clause-written
unfolding event_lines
returns-in_err-put_event-clause-written g c =
    listed_failed (event_words c.args.names.now) (g.V.View.events c.args.view.now) c.loop-i.i _ _ _ _ _ _ _ c.from_residual.result _ c.from_residual.ensures.0 c.event.ensures.there c.loop-i.invariant.written c.in_err-put_event.ensures.written

pub returns-clause-written : goal.returns-clause-written
unfolding event_lines
returns-clause-written g c = listed_all (event_words c.args.names.now) (g.V.View.events c.args.view.now) c.loop-i.i _ _ _ _ _ (omega (arith, c.events-i-end.ensures)) c.loop-i.invariant.written
