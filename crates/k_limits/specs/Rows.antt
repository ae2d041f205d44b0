-- How the rows of a tree are put into it one by one, where each hard one reserves its maximum.
use Rattle.std.specs.Prelude.{◌≡◌, IsTrue, ℕ, ◌<◌, ◌^◌, ◌&&◌, Bool, false, List, length, take, find, replicate, Option, Some, None, is_some}
use Rattle.k_types.specs.declared.names.LimitId.{LimitId}
use Rattle.k_types.specs.declared.setup.LimitRow.{LimitRow}
use Rattle.k_types.specs.Numbers.{numbers_below}
use Rattle.k_types.specs.Trace.{row_of}
use Rattle.k_types.specs.TraceRules.{IsTree}
use Rattle.k_types.specs.Limits.{max_of}
use Rattle.k_limits.specs.declared.error.MakeError.{MakeError}
use Rattle.k_limits.specs.declared.error.MakeError.TheVariants.{ReserveFull, NoMemory}
use Rattle.k_limits.specs.Limits.{ChargedLimits, charged_limits, full_at}

-- each parent stands before its children, and each maximum is below 2^40
pub record AreRows (rows : List LimitRow) : Type 0 where
  pub tree : IsTree rows
  pub small : (m : ℕ) → m < length rows → max_of rows m < 2 ^ 40

-- the limits with nothing charged
abbrev pub uncharged : List LimitRow → ChargedLimits
uncharged rows = charged_limits rows (replicate (length rows) 0)

-- so many bytes don't fit on the parent's path
abbrev pub is_parent_full : ChargedLimits → Option LimitId → ℕ → Bool
is_parent_full limits None n = false
is_parent_full limits (Some parent) n = is_some (full_at limits parent.0 n)

-- the row is hard, and its maximum doesn't fit on its parent's path
abbrev pub is_refused : ChargedLimits → LimitRow → Bool
is_refused limits row = row.hard && is_parent_full limits row.parent row.max

-- the first row that is refused where the rows before it stand
abbrev pub first_refused : List LimitRow → Option ℕ
first_refused rows = find (λ at. is_refused (uncharged (take at rows)) (row_of rows at)) (numbers_below (length rows))

-- it is so that no tree was made for this reason
abbrev pub Explains : List LimitRow → MakeError → Type 0
Explains rows (ReserveFull row) = first_refused rows ≡ Some row
Explains rows (NoMemory refused) = Unit {0}

-- it is so that the row was not added to the limits for this reason
abbrev pub ExplainsRow : ChargedLimits → LimitRow → MakeError → Type 0
ExplainsRow limits row (ReserveFull at) = (at ≡ length limits.rows) × IsTrue (is_refused limits row)
ExplainsRow limits row (NoMemory refused) = Unit {0}
