use Rattle.std.proofs.Common.{◌≡◌, length}
use Rattle.k_still.specs.Opening.{ArePendingShared}
use Rattle.k_still.proofs.beginning.open_shared.Given as goal

abbrev pub ghost-open_heap : goal.ghost-open_heap
ghost-open_heap g a = g.world'

abbrev pub invariant-loop-room : goal.invariant-loop-room
invariant-loop-room g l = record {
  pending : ArePendingShared g.world' l.setup l.exits l.beginnings l.shared.items;
  count : length l.shared.items ≡ l.room-index;
}
