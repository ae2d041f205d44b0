use Rattle.std.proofs.Common.{ℕ, ◌-◌, ◌<◌, ◌≤◌, length, get_or}
use Rattle.std.specs.Prelude.{IsTrue, IsFalse}
use Rattle.k_types.specs.State.{ExitItem}
use Rattle.k_audit.specs.Tests.{exit_lt}
use Rattle.k_audit.proofs.holding.exit_place.Given as goal

abbrev pub invariant-loop-low : goal.invariant-loop-low
invariant-loop-low l = record {
  low : l.low ≤ l.high;
  high : l.high ≤ length l.lists.state.exits;
  before : (k : ℕ) (d : ExitItem) → k < l.low → IsTrue (exit_lt l.lists.setup (get_or l.lists.state.exits k d) (record { heap = l.heap; target = l.target }));
  after : (k : ℕ) (d : ExitItem) → l.high ≤ k → k < length l.lists.state.exits → IsFalse (exit_lt l.lists.setup (get_or l.lists.state.exits k d) (record { heap = l.heap; target = l.target }));
}

abbrev pub decreases-loop-low : goal.decreases-loop-low
decreases-loop-low l = l.high - l.low
