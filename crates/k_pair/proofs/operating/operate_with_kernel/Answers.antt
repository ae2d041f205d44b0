use Rattle.k_pair.proofs.Touching.{one_of_five}
use Rattle.k_pair.proofs.operating.operate_with_kernel.Goals as goal

pub unreachable-requires : goal.unreachable-requires
unreachable-requires g c =
    one_of_five g.S.StepName.before.own.trace c.args.cell.now c.args.book.now c.args.op.now c.requires.met.touches c.requires.goes_on
    c.in_default.not-KNew c.in_default.not-Store c.in_default.not-Load c.in_default.not-Put c.in_default.not-Get
