-- What the rows of an area have of marks and of bytes.
use Rattle.std.proofs.Common.{◌≡◌, ℕ, ◌+◌, ◌≤◌, Bool, true, false, cond, refl, List, [], ◌∷◌, length, sum_by, Option, Some, None, arith}
use Rattle.std.proofs.lemmas.List.Sums.{sum_by-cons}
use Rattle.k_laws.specs.k_types.Totals.{total}
use Rattle.k_laws.specs.k_types.Owners.{object_bytes}
use Rattle.k_laws.specs.k_types.Types.{object_size}
use Rattle.k_space.specs.Segments.{Row, objects_from, is_marked, some_black, unmarked_row}
use Rattle.k_mark.specs.Sweeping.{dead_bytes_of}

-- no object is black whose mark was taken
pub black_unmarked : (o : Option Row) → some_black (unmarked_row o) ≡ false
black_unmarked None = refl
black_unmarked (Some row) = refl

-- the dead objects have no more bytes than all
bytes_within : (row : Row) → dead_bytes_of (Some row) ≤ object_size (length row.fields)
bytes_within row = by_mark (is_marked row.color)
  where
    by_mark : (b : Bool) → cond b 0 (object_size (length row.fields)) ≤ object_size (length row.fields)
    by_mark true = omega arith
    by_mark false = omega arith

pub dead_sum : (number serial : ℕ) (rows : List (Option Row)) → sum_by dead_bytes_of rows ≤ total object_bytes (objects_from number serial rows)
dead_sum number serial [] = omega arith
dead_sum number serial (None ∷ rows) = omega (arith, sum_by-cons dead_bytes_of None rows, dead_sum number (serial + 1) rows)
dead_sum number serial (Some row ∷ rows) = omega (arith, sum_by-cons dead_bytes_of (Some row) rows, bytes_within row, dead_sum number (serial + 1) rows)
