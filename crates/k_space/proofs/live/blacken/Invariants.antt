use Rattle.std.proofs.Common.{◌≡◌, ◌≤◌}
use Rattle.k_space.specs.Listed.{AreBlackened, AreInFront, serials}
use Rattle.k_space.proofs.live.blacken.Given as goal

abbrev pub invariant-loop-i : goal.invariant-loop-i
invariant-loop-i l = record {
  black : AreBlackened (serials l.fn.live) l.fn.below l.i l.fn.places.items l.places.items;
  capacity : l.places.capacity ≡ l.fn.places.capacity;
  front : AreInFront (serials l.fn.live) l.fn.below l.front;
  passed : l.front ≤ l.i;
}
