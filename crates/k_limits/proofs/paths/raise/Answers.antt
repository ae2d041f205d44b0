use Rattle.std.proofs.Common.{◌∙◌, ◌^◌}
use Rattle.std.proofs.lemmas.List.{length-set}
use Rattle.k_limits.proofs.Walks.{fits, goes_at, next_in, next_fewer, room_left, raised_left}
use Rattle.k_limits.proofs.paths.raise.Goals as goal

pub overflow_add-uses : goal.overflow_add-uses
overflow_add-uses c =
    let i = c.loop-next.invariant in
    fits _ (room_left c.args.rows.now c.requires.tree _ c.in-Some.limit c.in-Some.is i.0 _ c.args.n i.1 (2 ^ 64) _ i.2 c.requires.small)

pub loop-next-smaller : goal.loop-next-smaller
loop-next-smaller c =
    let i = c.loop-next.invariant in
    let goes = goes_at c.args.rows.now c.requires.tree _ c.in-Some.limit c.in-Some.is i.0 _ _ c.passed_to-next.ensures in
    next_fewer c.args.rows.now c.requires.tree _ c.in-Some.limit c.in-Some.is i.0 _ goes

pub loop-next-preserved : goal.loop-next-preserved
loop-next-preserved c =
    let i = c.loop-next.invariant in
    let goes = goes_at c.args.rows.now c.requires.tree _ c.in-Some.limit c.in-Some.is i.0 _ _ c.passed_to-next.ensures in (
      next_in c.args.rows.now c.requires.tree _ c.in-Some.limit c.in-Some.is i.0 _ goes,
      length-set _ _ _ ∙ i.1,
      raised_left c.args.rows.now c.requires.tree _ c.in-Some.limit c.in-Some.is i.0 _ c.args.n i.1 _ _ goes i.2,
    )
