use Rattle.std.proofs.Common.{arith}
use Rattle.k_types.specs.Trace.{segment_count}
use Rattle.k_report.proofs.LineLemmas.{written_none, lines_next, lines_failed, lines_all}
use Rattle.k_audit.specs.Snapshots.{made_line}
use Rattle.k_audit.proofs.writing.all_made.Goals as goal

pub loop-seg-init : goal.loop-seg-init
loop-seg-init g c = record { written = written_none _ _; empty = c.requires.empty }

pub loop-seg-preserved : goal.loop-seg-preserved
loop-seg-preserved g c = record {
  written = lines_next (made_line c.args.names.now (g.V.View.state c.args.view.now)) c.loop-seg.seg _ _ _ _ _ _ _ c.loop-seg.invariant.written c.in_ok-put_made.ensures.written;
  empty = c.put_made.ensures.empty;
}

pub returns-in_err-put_made-clause-written : goal.returns-in_err-put_made-clause-written
returns-in_err-put_made-clause-written g c =
    lines_failed (made_line c.args.names.now (g.V.View.state c.args.view.now)) c.loop-seg.seg (segment_count (g.V.View.trace c.args.view.now)) _ _ _ _ _ _ c.from_residual.result _ c.from_residual.ensures.0 (omega (arith, c.procs.ensures.count, c.shared_heaps.ensures.count)) c.loop-seg.invariant.written c.in_err-put_made.ensures.written

pub returns-clause-written : goal.returns-clause-written
returns-clause-written g c =
    lines_all (made_line c.args.names.now (g.V.View.state c.args.view.now)) c.loop-seg.seg (segment_count (g.V.View.trace c.args.view.now)) _ _ _ _ _ (omega (arith, c.procs.ensures.count, c.shared_heaps.ensures.count)) c.loop-seg.invariant.written
