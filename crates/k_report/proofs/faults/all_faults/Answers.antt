use Rattle.std.proofs.Common.{arith}
use Rattle.k_report.proofs.LineLemmas.{written_none, lines_next, lines_failed, lines_all}
use Rattle.k_types.specs.Trace.{process_count}
use Rattle.k_text.specs.Report.{fault_line}
use Rattle.k_report.proofs.faults.all_faults.Goals as goal

pub loop-pid-init : goal.loop-pid-init
loop-pid-init g c = record { written = written_none _ _; empty = c.requires.empty }

pub loop-pid-preserved : goal.loop-pid-preserved
loop-pid-preserved g c = record {
  written = lines_next (fault_line c.args.names.now (g.V.View.events c.args.view.now)) c.loop-pid.pid _ _ _ _ _ _ _ c.loop-pid.invariant.written c.in_ok-put_faults.ensures.written;
  empty = c.put_faults.ensures.empty;
}

pub returns-in_err-put_faults-clause-written : goal.returns-in_err-put_faults-clause-written
returns-in_err-put_faults-clause-written g c =
    lines_failed (fault_line c.args.names.now (g.V.View.events c.args.view.now)) c.loop-pid.pid (process_count (g.V.View.trace c.args.view.now)) _ _ _ _ _ _ c.from_residual.result _ c.from_residual.ensures.0 (omega (arith, c.procs-pid-end.ensures.count)) c.loop-pid.invariant.written c.in_err-put_faults.ensures.written

pub returns-clause-written : goal.returns-clause-written
returns-clause-written g c = lines_all (fault_line c.args.names.now (g.V.View.events c.args.view.now)) c.loop-pid.pid (process_count (g.V.View.trace c.args.view.now)) _ _ _ _ _ (omega arith) c.loop-pid.invariant.written
