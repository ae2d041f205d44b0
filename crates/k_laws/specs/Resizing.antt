-- What another maximum of a limit leaves.
use Rattle.std.specs.Prelude.{◌≡◌, ◌≢◌, ℕ, ◌+◌, Bool, true, false, Option, Some, None, if◌then◌else◌}
use Rattle.k_types.specs.declared.names.LimitId.{LimitId}
use Rattle.k_types.specs.Names.{among}
use Rattle.k_types.specs.Trace.{Trace, row_of}
use Rattle.k_types.specs.State.{State}
use Rattle.k_types.specs.Owners.{charge_of}
use Rattle.k_types.specs.Limits.{limits_in, max_of, use_of, path_of}

-- what a limit with this parent reserves counts at q: where it is hard, on the path of its parent
abbrev pub reserves_by : Trace → State → Bool → Option LimitId → ℕ → Bool
reserves_by trace st true (Some parent) q = among q (path_of (limits_in trace st) parent.0)
reserves_by trace st true None q = false
reserves_by trace st false parent q = false

-- the maximum of m counts at q
abbrev pub reserves_at : Trace → State → ℕ → ℕ → Bool
reserves_at trace st m q = reserves_by trace st (row_of trace.limits m).hard (row_of trace.limits m).parent q

-- the limit has this maximum, and every other limit its own. Where the maximum of a hard limit counts, on the path of its parent, the uses
-- are more or less by the difference; every other use is as it was, and so is what each process is charged
pub record MovesTheReservation (trace : Trace) (st : State) (m max : ℕ) (after : State) : Type 0 where
  pub own : max_of (limits_in trace after) m ≡ max
  pub others : (c : ℕ) → c ≢ m → max_of (limits_in trace after) c ≡ max_of (limits_in trace st) c
  pub uses : (q : ℕ) →
      use_of trace after q + (if reserves_at trace st m q then max_of (limits_in trace st) m else 0)
      ≡ use_of trace st q + (if reserves_at trace st m q then max else 0)
  pub charges : (q : ℕ) → charge_of trace after q ≡ charge_of trace st q
