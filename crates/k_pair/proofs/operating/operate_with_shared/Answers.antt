use Rattle.k_pair.proofs.Touching.{one_of_eight}
use Rattle.k_pair.proofs.operating.operate_with_shared.Goals as goal

pub unreachable-requires : goal.unreachable-requires
unreachable-requires g c =
    one_of_eight g.S.StepName.before.own.trace c.args.cell.now c.args.book.now c.args.shared.now.id c.args.op.now c.requires.touches
    c.in_default.not-Share c.in_default.not-Freeze c.in_default.not-Attach c.in_default.not-SNew c.in_default.not-Store c.in_default.not-Load c.in_default.not-Put c.in_default.not-Get
