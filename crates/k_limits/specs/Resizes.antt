-- Another maximum of a limit.
use Rattle.std.specs.Prelude.{◌≡◌, ℕ, ◌-◌, ◌<◌, ◌≤◌, nat_lt, find, slice_set, Option, Some, None, if◌then◌else◌}
use Rattle.k_types.specs.Trace.{row_of}
use Rattle.k_types.specs.Limits.{max_of}
use Rattle.k_limits.specs.declared.error.ResizeRefusal.{ResizeRefusal}
use Rattle.k_limits.specs.declared.error.ResizeRefusal.TheVariants.{InUse, Full}
use Rattle.k_limits.specs.Limits.{ChargedLimits, charged_limits, use_at, is_full_at}
use Rattle.k_limits.specs.Paths.{path_from, reserved_from}

-- the limits, where the one has this maximum
abbrev pub with_max_at : ℕ → ℕ → ChargedLimits → ChargedLimits
with_max_at m max limits = charged_limits (slice_set limits.rows m (record (row_of limits.rows m) { max = max })) limits.direct

-- the first limit from the parent of m upward where what m would get more doesn't fit; only a hard limit reserves it there
abbrev pub full_for_at : ChargedLimits → ℕ → ℕ → Option ℕ
full_for_at limits m max =
    if nat_lt (max_of limits.rows m) max
    then find (is_full_at limits (max - max_of limits.rows m)) (path_from limits.rows (reserved_from (row_of limits.rows m)))
    else None

-- it is so that the limit kept its maximum for this reason
abbrev pub ExplainsResize : ChargedLimits → ℕ → ℕ → ResizeRefusal → Type 0
ExplainsResize limits m max InUse = max < use_at limits m
ExplainsResize limits m max (Full q) = (use_at limits m ≤ max) × (full_for_at limits m max ≡ Some q.0)
