-- What is judged, and the answer of the judgement.
use Rattle.std.specs.Prelude.{◌≡◌, ℕ, [], Option, Some, None}
use Rattle.k_types.specs.Sound.{AreNames}
use Rattle.k_types.specs.Trace.{Trace}
use Rattle.k_state.specs.Machines.{Machine}
use Rattle.k_audit.specs.Claims.{Claims, Snap}
use Rattle.k_audit.specs.Grammar.{AreExitsFrom, AreSpelledClaims}
use Rattle.k_audit.specs.Verdicts.{HoldsAt, IsLowestFalse}

-- What a snapshot that keeps the grammar and the first point says, as the points from the second on ask for it.
pub record AreHeld (machine : Machine) (claims : Claims) : Type 0 where
  pub names : AreNames machine.state.objects machine.state.made
  pub exits : AreExitsFrom machine.setup 0 None machine.state.exits
  pub claimed : AreSpelledClaims machine.setup machine.state.objects claims
  pub scans : machine.state.scans ≡ []

-- The number is that of the lowest point that does not hold, or there is none.
abbrev pub IsJudged : Trace → Snap → Option ℕ → Type 0
IsJudged trace snap (Some k) = IsLowestFalse trace snap k
IsJudged trace snap None = (k : ℕ) → HoldsAt trace snap k
