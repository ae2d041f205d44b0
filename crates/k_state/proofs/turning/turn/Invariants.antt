use Rattle.std.proofs.Common.{◌≡◌, ◌≤◌, ◌++◌, length, take, drop}
use Rattle.k_state.specs.Marks.{staying_items}
use Rattle.k_state.proofs.turning.turn.Given as goal

abbrev pub invariant-loop-i : goal.invariant-loop-i
invariant-loop-i l = record {
  low : l.kept ≤ l.i;
  same : length l.exits.items ≡ length l.heaps;
  so_far : take l.kept l.exits.items ++ staying_items (drop l.i l.heaps) (drop l.i l.exits.items) ≡ staying_items l.heaps l.initial.exits.items;
}
