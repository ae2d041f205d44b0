use Rattle.std.proofs.Common.{arith}
use Rattle.k_report.proofs.LineLemmas.{written_none, numbers_next, numbers_failed, numbers_all}
use Rattle.k_types.specs.Trace.{process_count}
use Rattle.k_text.specs.Report.{shares_of_process}
use Rattle.k_report.proofs.shares.all_shares.Goals as goal

pub loop-pid-init : goal.loop-pid-init
loop-pid-init g c = record { written = written_none _ _; empty = c.requires.empty }

pub loop-pid-preserved : goal.loop-pid-preserved
loop-pid-preserved g c = record {
  written = numbers_next (shares_of_process c.args.names.now (g.V.View.trace c.args.view.now) (g.V.View.state c.args.view.now)) c.loop-pid.pid _ _ _ _ _ _ _ c.loop-pid.invariant.written c.in_ok-shares_of_process.ensures.written;
  empty = c.shares_of_process.ensures.empty;
}

pub returns-in_err-shares_of_process-clause-written : goal.returns-in_err-shares_of_process-clause-written
returns-in_err-shares_of_process-clause-written g c =
    numbers_failed (shares_of_process c.args.names.now (g.V.View.trace c.args.view.now) (g.V.View.state c.args.view.now)) c.loop-pid.pid (process_count (g.V.View.trace c.args.view.now)) _ _ _ _ _ _ c.from_residual.result _ c.from_residual.ensures.0 (omega (arith, c.procs-pid-end.ensures.count)) c.loop-pid.invariant.written c.in_err-shares_of_process.ensures.written

pub returns-clause-written : goal.returns-clause-written
returns-clause-written g c = numbers_all (shares_of_process c.args.names.now (g.V.View.trace c.args.view.now) (g.V.View.state c.args.view.now)) c.loop-pid.pid (process_count (g.V.View.trace c.args.view.now)) _ _ _ _ _ (omega arith) c.loop-pid.invariant.written
