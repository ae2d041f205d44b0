-- The lowest point that does not hold, from those that do.
use Rattle.std.proofs.Common.{◌≡◌, ℕ, ◌<◌, ◌≤◌, arith}
use Rattle.k_types.specs.Owners.{owner_of}
use Rattle.k_types.specs.Sound.{AreExits, AreGone, AreGuarded, AreNames, ArePhases, HasNoDangling}
use Rattle.k_types.specs.Trace.{Trace}
use Rattle.k_audit.specs.Claims.{Snap, claims_of}
use Rattle.k_audit.specs.Sums.{UsesFit}
use Rattle.k_audit.specs.Verdicts.{HoldsAt, IsLowestFalse}

-- the points below that number hold
pub record HoldBelow (trace : Trace) (snap : Snap) (k : ℕ) : Type 0 where
  pub names : 1 < k → AreNames snap.state.objects snap.state.made
  pub no_dangling : 2 < k → HasNoDangling snap.state
  pub guarded : 3 < k → AreGuarded (owner_of trace snap.state) snap.state.objects snap.state.exits
  pub exits : 4 < k → AreExits (owner_of trace snap.state) snap.state.exits
  pub gone : 5 < k → AreGone snap.state
  pub phases : 6 < k → ArePhases trace snap.state
  pub uses : 7 < k → UsesFit trace snap.state
  pub claims : 8 < k → snap.claims ≡ claims_of trace snap.state

holds_at : (trace : Trace) (snap : Snap) (k : ℕ) → HoldBelow trace snap k → (j : ℕ) → j < k → HoldsAt trace snap j
holds_at trace snap k hold j lt = record {
  names = λ e. hold.names (omega (arith, e, lt));
  no_dangling = λ e. hold.no_dangling (omega (arith, e, lt));
  guarded = λ e. hold.guarded (omega (arith, e, lt));
  exits = λ e. hold.exits (omega (arith, e, lt));
  gone = λ e. hold.gone (omega (arith, e, lt));
  phases = λ e. hold.phases (omega (arith, e, lt));
  uses = λ e. hold.uses (omega (arith, e, lt));
  claims = λ e. hold.claims (omega (arith, e, lt));
}

pub lowest : (trace : Trace) (snap : Snap) (k : ℕ) → 0 < k → k ≤ 8 → HoldBelow trace snap k → (HoldsAt trace snap k → ⊥) → IsLowestFalse trace snap k
lowest trace snap k positive few hold bad = record { from_one = positive; eight = few; below = holds_at trace snap k hold; not_here = bad }

pub all_hold : (trace : Trace) (snap : Snap) → HoldBelow trace snap 9 → (k : ℕ) → HoldsAt trace snap k
all_hold trace snap hold k = record {
  names = λ e. hold.names (omega arith);
  no_dangling = λ e. hold.no_dangling (omega arith);
  guarded = λ e. hold.guarded (omega arith);
  exits = λ e. hold.exits (omega arith);
  gone = λ e. hold.gone (omega arith);
  phases = λ e. hold.phases (omega arith);
  uses = λ e. hold.uses (omega arith);
  claims = λ e. hold.claims (omega arith);
}
