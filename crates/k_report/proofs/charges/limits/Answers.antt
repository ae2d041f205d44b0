use Rattle.std.proofs.Common.{length, arith}
use Rattle.k_report.proofs.LineLemmas.{written_none, lines_next, lines_failed, lines_all}
use Rattle.k_text.specs.Report.{limit_charge_line}
use Rattle.k_report.proofs.charges.limits.Goals as goal

pub loop-at-init : goal.loop-at-init
loop-at-init g c = record { written = written_none _ _; empty = c.requires.empty }

pub loop-at-preserved : goal.loop-at-preserved
loop-at-preserved g c = record {
  written = lines_next (limit_charge_line c.args.names.now (g.V.View.trace c.args.view.now) (g.V.View.state c.args.view.now)) c.loop-at.at _ _ _ _ _ _ _ c.loop-at.invariant.written c.in_ok-put_limit.ensures.written;
  empty = c.put_limit.ensures.empty;
}

pub returns-in_err-put_limit-clause-written : goal.returns-in_err-put_limit-clause-written
returns-in_err-put_limit-clause-written g c =
    lines_failed (limit_charge_line c.args.names.now (g.V.View.trace c.args.view.now) (g.V.View.state c.args.view.now)) c.loop-at.at (length (g.V.View.trace c.args.view.now).limits) _ _ _ _ _ _ c.from_residual.result _ c.from_residual.ensures.0 (omega (arith, c.limits-at-end.ensures.count)) c.loop-at.invariant.written c.in_err-put_limit.ensures.written

pub returns-clause-written : goal.returns-clause-written
returns-clause-written g c = lines_all (limit_charge_line c.args.names.now (g.V.View.trace c.args.view.now) (g.V.View.state c.args.view.now)) c.loop-at.at (length (g.V.View.trace c.args.view.now).limits) _ _ _ _ _ (omega arith) c.loop-at.invariant.written
