-- How the definitions over what is charged directly stand to those of the machine.
use Rattle.std.specs.Prelude.{◌≡◌, ℕ, ◌<◌, ◌≤◌, List, length, slice_index}
use Rattle.k_types.specs.declared.setup.LimitRow.{LimitRow}
use Rattle.k_types.specs.Trace.{Trace}
use Rattle.k_types.specs.State.{State}
use Rattle.k_types.specs.Cells.{BookPart}
use Rattle.k_types.specs.Owners.{charge_of}
use Rattle.k_types.specs.Limits.{max_of, direct_by, limits_in, use_within, with_maxima}
use Rattle.k_limits.specs.Limits.{ChargedLimits, charged_limits}

-- the limits as they are in the state, where so much is charged directly at each
abbrev pub limits_of : Trace → State → List ℕ → ChargedLimits
limits_of trace st direct = charged_limits (limits_in trace st) direct

-- what is charged directly at each limit is what the machine charges the processes on it
abbrev pub AreCharges : Trace → State → List ℕ → Type 0
AreCharges trace st direct = (m : ℕ) → m < length trace.limits → slice_index direct m ≡ direct_by trace (charge_of trace st) m

-- with nothing charged, what is reserved at each limit fits into its maximum
abbrev pub ReservesFit : List LimitRow → Type 0
ReservesFit rows = (m : ℕ) → m < length rows → use_within rows (λ q. 0) (length rows) m ≤ max_of rows m

-- the limits with the maxima and the charges that the book's part has
abbrev pub limits_by : Trace → BookPart → ChargedLimits
limits_by trace book = charged_limits (with_maxima trace.limits book.maxima) book.direct
