use Rattle.std.proofs.Common.{◌∙◌}
use Rattle.k_commit.proofs.Resizing.{below_is, limit_there, process_there}
use Rattle.k_commit.proofs.limits.is_below.Goals as goal

pub limit_of-requires : goal.limit_of-requires
limit_of-requires g c = process_there g.trace c.args.book.now c.args.pid.0 c.args.limit.0 c.requires

pub below-requires : goal.below-requires
below-requires g c = limit_there g.trace c.args.book.now c.args.pid.0 c.args.limit.0 c.requires

pub returns : goal.returns
returns g c = c.below.ensures.above ∙ below_is g.trace c.args.book.now c.args.pid.0 c.args.limit.0 c.requires c.limit_of.result c.limit_of.ensures
