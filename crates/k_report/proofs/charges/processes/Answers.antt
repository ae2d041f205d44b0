use Rattle.std.proofs.Common.{arith}
use Rattle.k_report.proofs.LineLemmas.{written_none, lines_next, lines_failed, lines_all}
use Rattle.k_types.specs.Trace.{process_count}
use Rattle.k_text.specs.Report.{process_charge_line}
use Rattle.k_report.proofs.charges.processes.Goals as goal

pub loop-pid-init : goal.loop-pid-init
loop-pid-init g c = record { written = written_none _ _; empty = c.requires.empty }

pub loop-pid-preserved : goal.loop-pid-preserved
loop-pid-preserved g c = record {
  written = lines_next (process_charge_line c.args.names.now (g.V.View.trace c.args.view.now) (g.V.View.state c.args.view.now)) c.loop-pid.pid _ _ _ _ _ _ _ c.loop-pid.invariant.written c.in_ok-put_process.ensures.written;
  empty = c.put_process.ensures.empty;
}

pub returns-in_err-put_process-clause-written : goal.returns-in_err-put_process-clause-written
returns-in_err-put_process-clause-written g c =
    lines_failed (process_charge_line c.args.names.now (g.V.View.trace c.args.view.now) (g.V.View.state c.args.view.now)) c.loop-pid.pid (process_count (g.V.View.trace c.args.view.now)) _ _ _ _ _ _ c.from_residual.result _ c.from_residual.ensures.0 (omega (arith, c.procs-pid-end.ensures.count)) c.loop-pid.invariant.written c.in_err-put_process.ensures.written

pub returns-clause-written : goal.returns-clause-written
returns-clause-written g c = lines_all (process_charge_line c.args.names.now (g.V.View.trace c.args.view.now) (g.V.View.state c.args.view.now)) c.loop-pid.pid (process_count (g.V.View.trace c.args.view.now)) _ _ _ _ _ (omega arith) c.loop-pid.invariant.written
