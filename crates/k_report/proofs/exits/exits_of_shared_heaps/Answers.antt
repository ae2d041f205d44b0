use Rattle.std.proofs.Common.{arith}
use Rattle.k_report.proofs.LineLemmas.{written_none, numbers_next, numbers_failed, numbers_all}
use Rattle.k_types.specs.Owners.{shared}
use Rattle.k_text.specs.Report.{exits_of_heap}
use Rattle.k_report.proofs.exits.exits_of_shared_heaps.Goals as goal

pub loop-id-init : goal.loop-id-init
loop-id-init g c = record { written = written_none _ _; empty = c.requires.empty }

pub loop-id-preserved : goal.loop-id-preserved
loop-id-preserved g c = record {
  written = numbers_next (λ s. exits_of_heap c.args.names.now (g.V.View.state c.args.view.now) (shared s)) c.loop-id.id _ _ _ _ _ _ _ c.loop-id.invariant.written c.in_ok-exits_of_heap.ensures.written;
  empty = c.exits_of_heap.ensures.empty;
}

pub returns-in_err-exits_of_heap-clause-written : goal.returns-in_err-exits_of_heap-clause-written
returns-in_err-exits_of_heap-clause-written g c =
    numbers_failed (λ s. exits_of_heap c.args.names.now (g.V.View.state c.args.view.now) (shared s)) c.loop-id.id ((g.V.View.trace c.args.view.now).shared_heaps) _ _ _ _ _ _ c.from_residual.result _ c.from_residual.ensures.0 (omega (arith, c.shared_heaps-id-end.ensures.count)) c.loop-id.invariant.written c.in_err-exits_of_heap.ensures.written

pub returns-clause-written : goal.returns-clause-written
returns-clause-written g c = numbers_all (λ s. exits_of_heap c.args.names.now (g.V.View.state c.args.view.now) (shared s)) c.loop-id.id ((g.V.View.trace c.args.view.now).shared_heaps) _ _ _ _ _ (omega arith) c.loop-id.invariant.written
