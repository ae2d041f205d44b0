-- That uses fit.
use Rattle.std.specs.Prelude.{ℕ, ◌<◌, ◌≤◌, length}
use Rattle.k_types.specs.Limits.{limits_in, max_of, use_of}
use Rattle.k_types.specs.State.{State}
use Rattle.k_types.specs.Trace.{Trace}

-- Each use is at most the maximum of its limit.
abbrev pub UsesFit : Trace → State → Type 0
UsesFit trace st = (m : ℕ) → m < length trace.limits → use_of trace st m ≤ max_of (limits_in trace st) m
