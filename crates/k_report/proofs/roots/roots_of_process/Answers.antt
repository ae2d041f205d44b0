use Rattle.std.proofs.Common.{arith}
use Rattle.k_report.proofs.LineLemmas.{written_none, numbers_next, numbers_failed, numbers_all}
use Rattle.k_types.specs.State.{register}
use Rattle.k_text.specs.Report.{root_lines, roots_of_process, register_numbers}
use Rattle.k_report.proofs.roots.roots_of_process.Goals as goal

pub loop-r-init : goal.loop-r-init
loop-r-init g c = record { written = written_none _ _; empty = c.requires.empty }

pub loop-r-preserved : goal.loop-r-preserved
loop-r-preserved g c = record {
  written = numbers_next (λ r. root_lines c.args.names.now c.args.pid.0 r (register (g.V.View.state c.args.view.now).registers c.args.pid.0 r)) c.loop-r.r _ _ _ _ _ _ _ c.loop-r.invariant.written (rw c.reg.ensures.held at c.in_ok-put_root.ensures.written);
  empty = c.put_root.ensures.empty;
}

pub returns-in_err-put_root-clause-written : goal.returns-in_err-put_root-clause-written
unfolding roots_of_process register_numbers
returns-in_err-put_root-clause-written g c =
    numbers_failed (λ r. root_lines c.args.names.now c.args.pid.0 r (register (g.V.View.state c.args.view.now).registers c.args.pid.0 r)) c.loop-r.r (16) _ _ _ _ _ _ c.from_residual.result _ c.from_residual.ensures.0 (omega arith) c.loop-r.invariant.written (rw c.reg.ensures.held at c.in_err-put_root.ensures.written)

pub returns-clause-written : goal.returns-clause-written
unfolding roots_of_process register_numbers
returns-clause-written g c = numbers_all (λ r. root_lines c.args.names.now c.args.pid.0 r (register (g.V.View.state c.args.view.now).registers c.args.pid.0 r)) c.loop-r.r (16) _ _ _ _ _ (omega arith) c.loop-r.invariant.written
