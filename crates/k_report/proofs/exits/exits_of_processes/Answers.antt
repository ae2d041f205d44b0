use Rattle.std.proofs.Common.{arith}
use Rattle.k_report.proofs.LineLemmas.{written_none, numbers_next, numbers_failed, numbers_all}
use Rattle.k_types.specs.Trace.{process_count}
use Rattle.k_types.specs.Owners.{user}
use Rattle.k_text.specs.Report.{exits_of_heap}
use Rattle.k_report.proofs.exits.exits_of_processes.Goals as goal

pub loop-pid-init : goal.loop-pid-init
loop-pid-init g c = record { written = written_none _ _; empty = c.requires.empty }

pub loop-pid-preserved : goal.loop-pid-preserved
loop-pid-preserved g c = record {
  written = numbers_next (λ p. exits_of_heap c.args.names.now (g.V.View.state c.args.view.now) (user p)) c.loop-pid.pid _ _ _ _ _ _ _ c.loop-pid.invariant.written c.in_ok-exits_of_heap.ensures.written;
  empty = c.exits_of_heap.ensures.empty;
}

pub returns-in_err-exits_of_heap-clause-written : goal.returns-in_err-exits_of_heap-clause-written
returns-in_err-exits_of_heap-clause-written g c =
    numbers_failed (λ p. exits_of_heap c.args.names.now (g.V.View.state c.args.view.now) (user p)) c.loop-pid.pid (process_count (g.V.View.trace c.args.view.now)) _ _ _ _ _ _ c.from_residual.result _ c.from_residual.ensures.0 (omega (arith, c.procs-pid-end.ensures.count)) c.loop-pid.invariant.written c.in_err-exits_of_heap.ensures.written

pub returns-clause-written : goal.returns-clause-written
returns-clause-written g c = numbers_all (λ p. exits_of_heap c.args.names.now (g.V.View.state c.args.view.now) (user p)) c.loop-pid.pid (process_count (g.V.View.trace c.args.view.now)) _ _ _ _ _ (omega arith) c.loop-pid.invariant.written
