-- What contracts see of a tree of limits. Uses are no part of it: they are computed from it afresh.
use Rattle.std.specs.Prelude.{ℕ, ◌+◌, nat_lt, Bool, List, length, find, Option, slice_index}
use Rattle.k_types.specs.declared.setup.LimitRow.{LimitRow}
use Rattle.k_types.specs.Limits.{max_of, path_of, use_within}

-- the rows of the limits, and how many bytes are charged directly at each
pub record ChargedLimits : Type 0 where
  pub rows : List LimitRow
  pub direct : List ℕ

-- the limits by their parts
abbrev pub charged_limits : List LimitRow → List ℕ → ChargedLimits
charged_limits rows direct = record { rows = rows; direct = direct }

-- what is used at m: what is charged there directly, and for each child its maximum, where it is hard, or its use
abbrev pub use_at : ChargedLimits → ℕ → ℕ
use_at limits m = use_within limits.rows (slice_index limits.direct) (length limits.rows) m

-- n more bytes don't fit at the limit itself
abbrev pub is_full_at : ChargedLimits → ℕ → ℕ → Bool
is_full_at limits n m = nat_lt (max_of limits.rows m) (use_at limits m + n)

-- the first limit on the path of m where n more bytes don't fit
abbrev pub full_at : ChargedLimits → ℕ → ℕ → Option ℕ
full_at limits m n = find (is_full_at limits n) (path_of limits.rows m)
