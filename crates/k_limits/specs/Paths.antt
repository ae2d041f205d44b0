-- The paths that charges go, and when the running uses of a tree are right.
use Rattle.std.specs.Prelude.{◌≡◌, ℕ, suc, ◌+◌, ◌<◌, ◌≤◌, ◌^◌, ◌==◌, nat_lt, Bool, if◌then◌else◌, List, [], ◌∷◌, length, Option, Some, None, slice_index}
use Rattle.k_types.specs.Totals.{total}
use Rattle.k_types.specs.declared.names.LimitId.{LimitId}
use Rattle.k_types.specs.declared.setup.LimitRow.{LimitRow}
use Rattle.k_types.specs.Limits.{max_of, path_of, ancestors_of}
use Rattle.k_limits.specs.Limits.{ChargedLimits, use_at}
use Rattle.k_limits.specs.Rows.{AreRows}

-- the limit to which the charges at a row are applied too: its parent, where the row is soft
abbrev pub passed_to : LimitRow → Option LimitId
passed_to row = if row.hard then None else row.parent

-- the limit whose path has to have room for a row's reservation: its parent, where the row is hard
abbrev pub reserved_from : LimitRow → Option LimitId
reserved_from row = if row.hard then row.parent else None

-- the limit, if there is one, is one of the rows
abbrev pub InRows : List LimitRow → Option LimitId → Type 0
InRows rows None = Unit {0}
InRows rows (Some limit) = limit.0 < length rows

-- the path from there on
abbrev pub path_from : List LimitRow → Option LimitId → List ℕ
path_from rows None = []
path_from rows (Some limit) = path_of rows limit.0

-- a limit and its ancestors
abbrev pub ancestry_from : List LimitRow → Option LimitId → List ℕ
ancestry_from rows None = []
ancestry_from rows (Some limit) = limit.0 ∷ ancestors_of rows limit.0

-- how often m stands on the path
abbrev pub times_on : List ℕ → ℕ → ℕ
times_on path m = total (λ q. if q == m then 1 else 0) path

-- n more bytes don't fit at the limit, where the uses are these
abbrev pub is_over : List LimitRow → List ℕ → ℕ → ℕ → Bool
is_over rows uses n m = nat_lt (max_of rows m) (slice_index uses m + n)

-- the work of a walk that goes on at the limit
abbrev pub steps_left : Option LimitId → ℕ
steps_left None = 0
steps_left (Some limit) = suc limit.0

-- the running uses are those that the limits and the charges give, and each is at most the limit's maximum
pub record AreUses (limits : ChargedLimits) (uses : List ℕ) : Type 0 where
  pub rows : AreRows limits.rows
  pub few : length limits.rows < 2 ^ 32
  pub charges : length limits.direct ≡ length limits.rows
  pub all : length uses ≡ length limits.rows
  pub each : (m : ℕ) → m < length limits.rows → slice_index uses m ≡ use_at limits m
  pub fit : (m : ℕ) → m < length limits.rows → use_at limits m ≤ max_of limits.rows m
