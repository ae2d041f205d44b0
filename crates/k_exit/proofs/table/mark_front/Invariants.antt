use Rattle.std.proofs.Common.{◌≡◌, ◌++◌, map, take, drop, vec_capacity, length}
use Rattle.k_exit.specs.Chains.{marked_item}
use Rattle.k_exit.proofs.table.mark_front.Given as goal

abbrev pub invariant-loop-i : goal.invariant-loop-i
invariant-loop-i l = record {
  items : l.items.items ≡ map marked_item (take l.i l.fn.items.items) ++ drop l.i l.fn.items.items;
  capacity : vec_capacity l.items ≡ vec_capacity l.fn.items;
  len : length l.items.items ≡ length l.fn.items.items;
}
