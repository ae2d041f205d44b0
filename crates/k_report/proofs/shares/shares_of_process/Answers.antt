use Rattle.std.proofs.Common.{arith}
use Rattle.k_report.proofs.LineLemmas.{written_none, numbers_next, numbers_failed, numbers_all}
use Rattle.k_types.specs.State.{has_share}
use Rattle.k_text.specs.Report.{share_lines, shares_of_process}
use Rattle.k_report.proofs.shares.shares_of_process.Goals as goal

pub loop-id-init : goal.loop-id-init
loop-id-init g c = record { written = written_none _ _; empty = c.requires.empty }

pub loop-id-preserved : goal.loop-id-preserved
loop-id-preserved g c = record {
  written = numbers_next (λ s. share_lines c.args.names.now c.args.pid.0 s (has_share (g.V.View.state c.args.view.now).shares c.args.pid.0 s)) c.loop-id.id _ _ _ _ _ _ _ c.loop-id.invariant.written (rw c.shares.ensures at c.in_ok-put_share.ensures.written);
  empty = c.put_share.ensures.empty;
}

pub returns-in_err-put_share-clause-written : goal.returns-in_err-put_share-clause-written
unfolding shares_of_process
returns-in_err-put_share-clause-written g c =
    numbers_failed (λ s. share_lines c.args.names.now c.args.pid.0 s (has_share (g.V.View.state c.args.view.now).shares c.args.pid.0 s)) c.loop-id.id ((g.V.View.trace c.args.view.now).shared_heaps) _ _ _ _ _ _ c.from_residual.result _ c.from_residual.ensures.0 (omega (arith, c.shared_heaps-id-end.ensures.count)) c.loop-id.invariant.written (rw c.shares.ensures at c.in_err-put_share.ensures.written)

pub returns-clause-written : goal.returns-clause-written
unfolding shares_of_process
returns-clause-written g c = numbers_all (λ s. share_lines c.args.names.now c.args.pid.0 s (has_share (g.V.View.state c.args.view.now).shares c.args.pid.0 s)) c.loop-id.id ((g.V.View.trace c.args.view.now).shared_heaps) _ _ _ _ _ (omega arith) c.loop-id.invariant.written
