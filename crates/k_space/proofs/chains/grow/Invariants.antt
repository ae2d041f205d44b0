use Rattle.std.proofs.Common.{◌≡◌, ◌+◌, ◌-◌, ℕ, length, vec_capacity}
use Rattle.k_space.specs.Chains.{spot_at}
use Rattle.k_space.proofs.chains.grow.Given as goal

abbrev pub invariant-loop-spots : goal.invariant-loop-spots
invariant-loop-spots l = record {
  same : (other : ℕ) → spot_at l.spots.items other ≡ spot_at l.fn.spots.items other;
  capacity : vec_capacity l.spots ≡ vec_capacity l.fn.spots;
}

abbrev pub decreases-loop-spots : goal.decreases-loop-spots
decreases-loop-spots l = l.fn.slot + 1 - length l.spots.items
