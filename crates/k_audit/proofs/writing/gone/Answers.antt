use Rattle.std.proofs.Common.{arith, not}
use Rattle.k_types.specs.Names.{among}
use Rattle.k_types.specs.Trace.{process_count}
use Rattle.k_report.proofs.LineLemmas.{written_none, numbers_next, numbers_failed, numbers_all}
use Rattle.k_audit.specs.Snapshots.{gone_line, gone_lines}
use Rattle.k_audit.proofs.writing.gone.Goals as goal

pub loop-pid-init : goal.loop-pid-init
loop-pid-init g c = record { written = written_none _ _; empty = c.requires.empty }

pub loop-pid-preserved : goal.loop-pid-preserved
loop-pid-preserved g c = record {
  written = numbers_next (λ p. gone_line c.args.names.now p (not (among p (g.V.View.state c.args.view.now).ended))) c.loop-pid.pid _ _ _ _ _ _ _ c.loop-pid.invariant.written (rw c.lives.ensures at c.in_ok-put_gone.ensures.written);
  empty = c.put_gone.ensures.empty;
}

pub returns-in_err-put_gone-clause-written : goal.returns-in_err-put_gone-clause-written
unfolding gone_lines
returns-in_err-put_gone-clause-written g c =
    numbers_failed (λ p. gone_line c.args.names.now p (not (among p (g.V.View.state c.args.view.now).ended))) c.loop-pid.pid (process_count (g.V.View.trace c.args.view.now)) _ _ _ _ _ _ c.from_residual.result _ c.from_residual.ensures.0 (omega (arith, c.procs-pid-end.ensures.count)) c.loop-pid.invariant.written (rw c.lives.ensures at c.in_err-put_gone.ensures.written)

pub returns-clause-written : goal.returns-clause-written
unfolding gone_lines
returns-clause-written g c = numbers_all (λ p. gone_line c.args.names.now p (not (among p (g.V.View.state c.args.view.now).ended))) c.loop-pid.pid (process_count (g.V.View.trace c.args.view.now)) _ _ _ _ _ (omega arith) c.loop-pid.invariant.written
