use Rattle.std.proofs.Common.{◌≡◌, ◌+◌, length}
use Rattle.k_types.specs.Trace.{process_count}
use Rattle.k_locks.specs.Places.{ArePlaces, filled}
use Rattle.k_locks.proofs.locks.gather.Given as goal

abbrev pub ghost-place_process : goal.ghost-place_process
ghost-place_process g a = g.W.WorldName.world

abbrev pub invariant-loop-lock : goal.invariant-loop-lock
invariant-loop-lock g l = record {
  places : ArePlaces g.W.WorldName.world l.places.items;
  all : filled l.places.items + length l.locks.items ≡ process_count g.W.WorldName.world.trace;
  book : l.book ≡ l.fn.book;
}

abbrev pub decreases-loop-lock : goal.decreases-loop-lock
decreases-loop-lock g l = goal.left-loop-lock g l
