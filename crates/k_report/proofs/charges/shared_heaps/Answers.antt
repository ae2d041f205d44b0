use Rattle.std.proofs.Common.{arith}
use Rattle.k_report.proofs.LineLemmas.{written_none, lines_next, lines_failed, lines_all}
use Rattle.k_text.specs.Report.{shared_charge_line}
use Rattle.k_report.proofs.charges.shared_heaps.Goals as goal

pub loop-id-init : goal.loop-id-init
loop-id-init g c = record { written = written_none _ _; empty = c.requires.empty }

pub loop-id-preserved : goal.loop-id-preserved
loop-id-preserved g c = record {
  written = lines_next (shared_charge_line c.args.names.now (g.V.View.trace c.args.view.now) (g.V.View.state c.args.view.now)) c.loop-id.id _ _ _ _ _ _ _ c.loop-id.invariant.written c.in_ok-put_shared.ensures.written;
  empty = c.put_shared.ensures.empty;
}

pub returns-in_err-put_shared-clause-written : goal.returns-in_err-put_shared-clause-written
returns-in_err-put_shared-clause-written g c =
    lines_failed (shared_charge_line c.args.names.now (g.V.View.trace c.args.view.now) (g.V.View.state c.args.view.now)) c.loop-id.id ((g.V.View.trace c.args.view.now).shared_heaps) _ _ _ _ _ _ c.from_residual.result _ c.from_residual.ensures.0 (omega (arith, c.shared_heaps-id-end.ensures.count)) c.loop-id.invariant.written c.in_err-put_shared.ensures.written

pub returns-clause-written : goal.returns-clause-written
returns-clause-written g c = lines_all (shared_charge_line c.args.names.now (g.V.View.trace c.args.view.now) (g.V.View.state c.args.view.now)) c.loop-id.id ((g.V.View.trace c.args.view.now).shared_heaps) _ _ _ _ _ (omega arith) c.loop-id.invariant.written
