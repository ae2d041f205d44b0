use Rattle.std.proofs.Common.{◌≡◌, ◌≤◌, ◌++◌, length, take, drop}
use Rattle.k_state.specs.Marks.{marked}
use Rattle.k_state.proofs.keeping.keep_marked.Given as goal

abbrev pub invariant-loop-i : goal.invariant-loop-i
invariant-loop-i g l = record {
  low : l.kept ≤ l.i;
  same : length l.items.items ≡ length l.stays;
  so_far : take l.kept l.items.items ++ marked (drop l.i l.stays) (drop l.i l.items.items) ≡ marked l.stays l.initial.items.items;
}
