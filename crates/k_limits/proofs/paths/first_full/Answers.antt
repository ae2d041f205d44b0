use Rattle.k_limits.proofs.Walks.{walk_in, goes_at, next_in, next_fewer, found_here, found_later, over, not_over}
use Rattle.k_limits.proofs.paths.first_full.Goals as goal

pub returns-then-row-uses : goal.returns-then-row-uses
returns-then-row-uses c =
    let i = c.loop-next.invariant in
    let inside = walk_in c.args.rows.now c.requires.tree _ c.in-Some.limit c.in-Some.is i.0 in
    found_here c.args.rows.now c.requires.tree _ c.in-Some.limit c.in-Some.is i.0 _ _ i.1 (over c.args.rows.now c.args.uses.now c.args.n c.in-Some.limit.0 _ inside (c.requires.fit c.in-Some.limit.0 inside) c.if-row-uses.true)

pub loop-next-smaller : goal.loop-next-smaller
loop-next-smaller c =
    let i = c.loop-next.invariant in
    let goes = goes_at c.args.rows.now c.requires.tree _ c.in-Some.limit c.in-Some.is i.0 _ _ c.passed_to-next.ensures in
    next_fewer c.args.rows.now c.requires.tree _ c.in-Some.limit c.in-Some.is i.0 _ goes

pub loop-next-preserved : goal.loop-next-preserved
loop-next-preserved c =
    let i = c.loop-next.invariant in
    let inside = walk_in c.args.rows.now c.requires.tree _ c.in-Some.limit c.in-Some.is i.0 in
    let goes = goes_at c.args.rows.now c.requires.tree _ c.in-Some.limit c.in-Some.is i.0 _ _ c.passed_to-next.ensures in (
      next_in c.args.rows.now c.requires.tree _ c.in-Some.limit c.in-Some.is i.0 _ goes,
      found_later c.args.rows.now c.requires.tree _ c.in-Some.limit c.in-Some.is i.0 _ _ _ goes i.1 (not_over c.args.rows.now c.args.uses.now c.args.n c.in-Some.limit.0 _ inside (c.requires.fit c.in-Some.limit.0 inside) c.if-row-uses.false),
    )
