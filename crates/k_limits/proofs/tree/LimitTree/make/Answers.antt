use Rattle.k_limits.specs.Rows.{Explains}
use Rattle.k_limits.proofs.Making.{next_row, row_made, none_more, explains, handed_on, all_made}
use Rattle.k_limits.proofs.tree.LimitTree.make.Goals as goal

pub with_row-requires-clause-rows : goal.with_row-requires-clause-rows
with_row-requires-clause-rows c = next_row c.args.rows.now c.requires.rows _ _ _ c.loop-row.invariant.0 c.loop-row-test.true

pub returns-in_err-tree-clause-refused : goal.returns-in_err-tree-clause-refused
returns-in_err-tree-clause-refused c =
    handed_on (Explains c.args.rows.now) c.from_residual.result c.in_err-tree.field-0.0 c.from_residual.ensures.1
    (explains c.args.rows.now c.requires.rows _ _ _ c.loop-row.invariant.0 c.loop-row-test.true c.loop-row.invariant.1 _ c.in_err-tree.ensures.refused)

pub loop-row-preserved : goal.loop-row-preserved
loop-row-preserved c =
    let added = c.in_ok-tree.ensures.added in (
      row_made c.args.rows.now c.requires.rows _ _ _ c.loop-row.invariant.0 c.loop-row-test.true _ added.0 added.1,
      none_more c.args.rows.now c.requires.rows _ _ _ c.loop-row.invariant.0 c.loop-row-test.true c.loop-row.invariant.1 added.2,
    )

pub returns-clause-made : goal.returns-clause-made
returns-clause-made c = all_made c.args.rows.now c.requires.rows _ c.loop-row.row-index c.loop-row.invariant.0 c.loop-row-test.false c.loop-row.auto.row-index-end c.loop-row.invariant.1
