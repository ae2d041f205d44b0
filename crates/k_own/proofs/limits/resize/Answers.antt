use Rattle.k_own.proofs.Below.{can_resize, resized}
use Rattle.k_own.proofs.limits.resize.Goals as goal

pub resize_limit-said-requires : goal.resize_limit-said-requires
resize_limit-said-requires g c = can_resize g.before c.args.cell.now c.args.book.now c.args.limit c.args.max c.requires c.pid.result c.pid.ensures

pub commit_heap-requires : goal.commit_heap-requires
commit_heap-requires g c =
    resized g.before c.args.cell.now c.args.book.now c.args.limit c.args.max c.requires c.pid.result c.pid.ensures c.resize_limit-said.new.book c.resize_limit-said.result c.resize_limit-said.ensures
