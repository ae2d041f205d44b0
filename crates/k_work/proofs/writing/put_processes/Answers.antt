use Rattle.std.proofs.Common.{length, arith}
use Rattle.k_report.proofs.LineLemmas.{written_none, lines_next, lines_failed, lines_all}
use Rattle.k_work.specs.Lines.{process_line}
use Rattle.k_work.proofs.writing.put_processes.Goals as goal

pub loop-pid-init : goal.loop-pid-init
loop-pid-init g c = record { written = written_none _ _; empty = c.requires.empty }

pub loop-pid-preserved : goal.loop-pid-preserved
loop-pid-preserved g c = record {
  written = lines_next (process_line c.args.names.now c.args.table.now) c.loop-pid.pid _ _ _ _ _ _ _ c.loop-pid.invariant.written c.in_ok-put_process.ensures.written;
  empty = c.put_process.ensures.empty;
}

pub returns-in_err-put_process-clause-written : goal.returns-in_err-put_process-clause-written
returns-in_err-put_process-clause-written g c =
    lines_failed (process_line c.args.names.now c.args.table.now) c.loop-pid.pid (length c.args.table.now.procs) _ _ _ _ _ _ c.from_residual.result _ c.from_residual.ensures.0 (omega arith) c.loop-pid.invariant.written c.in_err-put_process.ensures.written

pub returns-clause-written : goal.returns-clause-written
returns-clause-written g c = lines_all (process_line c.args.names.now c.args.table.now) c.loop-pid.pid (length c.args.table.now.procs) _ _ _ _ _ (omega arith) c.loop-pid.invariant.written
