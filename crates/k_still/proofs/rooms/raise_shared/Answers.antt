use Rattle.std.proofs.Common.{sym, ap, ◌∙◌, subst}
use Rattle.k_still.specs.Opening.{with_more}
use Rattle.k_still.proofs.Raised.{FitsMore, all_raised_by, next_fits_more, next_raised_by}
use Rattle.k_still.proofs.rooms.raise_shared.Goals as goal

pub raise_one-requires : goal.raise_one-requires
raise_one-requires c =
    subst (FitsMore c.loop-op.rooms c.args.stores) (sym c.heap_made.ensures)
    (next_fits_more c.args.most c.args.stores c.args.ops.now c.args.rooms.now c.loop-op.op-index _ c.loop-op.rooms c.loop-op.invariant c.loop-op-test.true)

pub loop-op-preserved : goal.loop-op-preserved
loop-op-preserved c =
    next_raised_by c.args.most c.args.stores c.args.ops.now c.args.rooms.now c.loop-op.op-index _ c.loop-op.rooms c.loop-op.invariant c.loop-op-test.true c.raise_one.new.rooms
    (c.raise_one.ensures ∙ ap (λ heap. with_more c.args.most c.args.stores heap c.loop-op.rooms) c.heap_made.ensures)

pub returns : goal.returns
returns c = all_raised_by c.args.most c.args.stores c.args.ops.now c.args.rooms.now c.loop-op.op-index c.loop-op.rooms c.loop-op.invariant c.loop-op-test.false
