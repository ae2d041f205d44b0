-- Where an exit item stands among the exit items in order.
use Rattle.std.specs.Prelude.{ℕ, ◌<◌, ◌≤◌, IsTrue, IsFalse, List, length, slice_index_or}
use Rattle.k_types.specs.State.{ExitItem}
use Rattle.k_types.specs.Trace.{Trace}
use Rattle.k_audit.specs.Tests.{exit_lt}

-- The exit items below that index come before the wanted one, and the others do not.
pub record IsExitPlace (trace : Trace) (exits : List ExitItem) (wanted : ExitItem) (at : ℕ) : Type 0 where
  pub within : at ≤ length exits
  pub before : (k : ℕ) (d : ExitItem) → k < at → IsTrue (exit_lt trace (slice_index_or exits k d) wanted)
  pub after : (k : ℕ) (d : ExitItem) → at ≤ k → k < length exits → IsFalse (exit_lt trace (slice_index_or exits k d) wanted)
