use Rattle.std.proofs.Common.{◌≡◌, ◌+◌, length}
use Rattle.k_locks.specs.Places.{ArePlacesShared, filled}
use Rattle.k_locks.proofs.locks.gather_shared.Given as goal

abbrev pub ghost-place_shared : goal.ghost-place_shared
ghost-place_shared g a = g.W.WorldName.world

abbrev pub invariant-loop-lock : goal.invariant-loop-lock
invariant-loop-lock g l = record {
  places : ArePlacesShared g.W.WorldName.world l.places.items;
  all : filled l.places.items + length l.locks.items ≡ g.W.WorldName.world.trace.shared_heaps;
  book : l.book ≡ l.fn.book;
}

abbrev pub decreases-loop-lock : goal.decreases-loop-lock
decreases-loop-lock g l = goal.left-loop-lock g l
