use Rattle.std.proofs.Common.{ℕ, ◌-◌, ◌<◌, ◌≤◌, length, get_or}
use Rattle.std.specs.Prelude.{IsTrue, IsFalse}
use Rattle.k_types.specs.Names.{name_lt}
use Rattle.k_types.specs.State.{Object}
use Rattle.k_solo.proofs.shown.place_after.Given as goal

abbrev pub invariant-loop-low : goal.invariant-loop-low
invariant-loop-low l = record {
  low : l.low ≤ l.high;
  high : l.high ≤ length l.objects;
  before : (k : ℕ) (d : Object) → k < l.low → IsFalse (name_lt l.name (get_or l.objects k d).name);
  after : (k : ℕ) (d : Object) → l.high ≤ k → k < length l.objects → IsTrue (name_lt l.name (get_or l.objects k d).name);
}

abbrev pub decreases-loop-low : goal.decreases-loop-low
decreases-loop-low l = l.high - l.low
