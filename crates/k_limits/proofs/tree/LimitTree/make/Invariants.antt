use Rattle.std.proofs.Common.{◌≡◌, ℕ, ◌<◌, take, false}
use Rattle.k_types.specs.Trace.{row_of}
use Rattle.k_limits.specs.Rows.{is_refused, uncharged}
use Rattle.k_limits.proofs.tree.LimitTree.make.Given as goal

-- the rows so far stand with nothing charged, and none of them was refused
abbrev pub invariant-loop-row : goal.invariant-loop-row
invariant-loop-row l =
    (l.tree ≡ uncharged (take l.row-index l.rows))
    × ((at : ℕ) → at < l.row-index → is_refused (uncharged (take at l.rows)) (row_of l.rows at) ≡ false)
