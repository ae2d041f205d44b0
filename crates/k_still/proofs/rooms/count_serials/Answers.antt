use Rattle.std.proofs.Common.{sym, ap, ◌∙◌, subst}
use Rattle.k_still.specs.Opening.{with_one_more}
use Rattle.k_still.proofs.Serials.{FitsOneMore, all_counted_by, next_counted_by, next_fits}
use Rattle.k_still.proofs.rooms.count_serials.Goals as goal

pub count_one-requires : goal.count_one-requires
count_one-requires c =
    subst (FitsOneMore c.loop-op.counts) (sym c.segment_given.ensures)
    (next_fits c.args.procs c.args.pid c.args.ops.now c.args.counts.now c.loop-op.op-index _ c.loop-op.counts c.loop-op.invariant c.loop-op-test.true)

pub loop-op-preserved : goal.loop-op-preserved
loop-op-preserved c =
    next_counted_by c.args.procs c.args.pid c.args.ops.now c.args.counts.now c.loop-op.op-index _ c.loop-op.counts c.loop-op.invariant c.loop-op-test.true c.count_one.new.counts
    (c.count_one.ensures ∙ ap (λ seg. with_one_more seg c.loop-op.counts) c.segment_given.ensures)

pub returns : goal.returns
returns c = all_counted_by c.args.procs c.args.pid c.args.ops.now c.args.counts.now c.loop-op.op-index c.loop-op.counts c.loop-op.invariant c.loop-op-test.false
