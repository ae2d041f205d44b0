use Rattle.std.proofs.Common.{sym, ◌∙◌}
use Rattle.k_limits.proofs.Walks.{first_up, up_in, up_fewer, below_later}
use Rattle.k_limits.proofs.paths.is_below.Goals as goal

pub loop-next-init : goal.loop-next-init
loop-next-init c = first_up c.args.rows.now c.requires.tree c.args.lower.0 _ c.requires.there c.args.upper.0

pub loop-next-smaller : goal.loop-next-smaller
loop-next-smaller c = up_fewer c.args.rows.now c.requires.tree _ c.in-Some.limit c.in-Some.is c.loop-next.invariant.0 _

pub loop-next-preserved : goal.loop-next-preserved
loop-next-preserved c =
    let i = c.loop-next.invariant in (
      up_in c.args.rows.now c.requires.tree _ c.in-Some.limit c.in-Some.is i.0 _,
      below_later c.args.rows.now c.requires.tree _ c.in-Some.limit c.in-Some.is i.0 _ _ _ i.1 (sym c.eq.ensures ∙ c.if-eq.false),
    )
