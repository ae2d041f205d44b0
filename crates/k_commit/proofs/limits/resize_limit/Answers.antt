use Rattle.std.proofs.Common.{◌∙◌, sym}
use Rattle.k_commit.proofs.Resizing.{can_compare, kept, limit_there, not_below, parent_there, resized}
use Rattle.k_commit.proofs.limits.resize_limit.Goals as goal

pub is_below-requires : goal.is_below-requires
is_below-requires g c = can_compare g.trace c.args.book.now c.args.pid c.args.limit c.args.max c.requires

pub returns-then-not-is_below : goal.returns-then-not-is_below
returns-then-not-is_below g c = not_below g.trace c.args.book.now c.args.pid c.args.limit c.args.max c.requires (sym c.is_below.ensures ∙ c.if-not-is_below.true)

pub resize-requires : goal.resize-requires
resize-requires g c = record {
  there = limit_there g.trace c.args.book.now c.args.pid.0 c.args.limit.0 (can_compare g.trace c.args.book.now c.args.pid c.args.limit c.args.max c.requires);
  below = parent_there g.trace c.args.book.now c.args.pid.0 c.args.limit.0 (can_compare g.trace c.args.book.now c.args.pid c.args.limit c.args.max c.requires) (sym c.is_below.ensures ∙ c.if-not-is_below.false);
  small = c.requires.small;
}

pub returns-in-Ok : goal.returns-in-Ok
returns-in-Ok g c =
    let done = c.in-Ok.ensures.resized in
    resized g.trace c.args.book.now c.args.pid c.args.limit c.args.max c.requires (sym c.is_below.ensures ∙ c.if-not-is_below.false) c.resize.new.self done.0 done.1 done.2

pub returns-in-Err : goal.returns-in-Err
returns-in-Err g c =
    kept g.trace c.args.book.now c.args.pid c.args.limit c.args.max c.requires (sym c.is_below.ensures ∙ c.if-not-is_below.false) c.resize.new.self c.in-Err.why c.in-Err.ensures.refused.0 c.in-Err.ensures.refused.1
    c.refused_by.result c.refused_by.ensures
