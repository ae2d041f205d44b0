use Rattle.std.proofs.Common.{◌≡◌, length, map, take}
use Rattle.k_state.specs.Marks.{turned_items}
use Rattle.k_types.specs.Effects.{exit_after}
use Rattle.k_scan.proofs.changes.heaps_after.Given as goal

abbrev pub invariant-loop-item : goal.invariant-loop-item
invariant-loop-item l =
    record {
      size : length l.heaps.items ≡ l.item-index;
      heaps : turned_items l.heaps.items (take l.item-index l.item-items) ≡ map (exit_after l.lists.setup l.lists.state l.pid.0) (take l.item-index l.item-items);
    }
