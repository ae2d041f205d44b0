use Rattle.std.proofs.Common.{◌≡◌, ◌≤◌, ◌<◌, ℕ, Some, false, slice_get, map}
use Rattle.k_exit.specs.Chains.{row_of, is_wanted}
use Rattle.k_exit.specs.Exits.{ExitRow}
use Rattle.k_exit.proofs.table.last_wanted.Given as goal

abbrev pub invariant-loop-i : goal.invariant-loop-i
invariant-loop-i l = record {
  within : l.i ≤ l.fn.end;
  passed : (j : ℕ) (row : ExitRow) → l.i ≤ j → j < l.fn.end → slice_get (map row_of l.items) j ≡ Some row → is_wanted l.wanted row ≡ false;
}

abbrev pub decreases-loop-i : goal.decreases-loop-i
decreases-loop-i l = l.i
