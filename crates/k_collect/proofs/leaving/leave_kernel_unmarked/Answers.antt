use Rattle.std.proofs.Common.{◌-◌, length, ap, ap₂, subst, arith, ◌∙◌}
use Rattle.k_types.specs.Distinct.{AreDistinctNames}
use Rattle.k_commit.specs.k_cell.Holdings.{HoldingsValue}
use Rattle.k_collect.proofs.Left.{book_left, fewer_left, left_counted}
use Rattle.k_collect.proofs.leaving.leave_kernel_unmarked.Goals as goal

pub overflow_sub-result : goal.overflow_sub-result
overflow_sub-result c =
    let fewer = fewer_left c.args.kernel.now.value c.loop-gone.kernel.value c.args.book.now.value c.loop-gone.book.value c.loop-gone.invariant.leaving c.in_default.ensures.none c.exit_count-before.ensures.distinct
    (subst (λ (x : HoldingsValue). AreDistinctNames x.value.exits) c.in_default.ensures.kept c.exit_count.ensures.distinct) in
    let same = ap (λ (x : HoldingsValue). length x.value.exits) c.in_default.ensures.kept in
    omega (arith, fewer, same, c.exit_count.ensures.len, c.exit_count-before.ensures.len)

pub returns-clause-left : goal.returns-clause-left
returns-clause-left c = book_left c.args.kernel.now.value c.loop-gone.kernel.value c.args.book.now.value c.loop-gone.book.value c.loop-gone.invariant.leaving c.in_default.ensures.none

pub returns-clause-count : goal.returns-clause-count
returns-clause-count c =
    ap₂ (λ a b. a - b) c.exit_count-before.ensures.len (c.exit_count.ensures.len ∙ ap (λ (x : HoldingsValue). length x.value.exits) c.in_default.ensures.kept)
    ∙ left_counted c.args.kernel.now.value c.loop-gone.kernel.value c.args.book.now.value c.loop-gone.book.value c.loop-gone.invariant.leaving c.in_default.ensures.none c.exit_count-before.ensures.distinct
    (subst (λ (x : HoldingsValue). AreDistinctNames x.value.exits) c.in_default.ensures.kept c.exit_count.ensures.distinct)
