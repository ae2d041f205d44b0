use Rattle.std.proofs.Common.{◌≡◌, ◌++◌, drop}
use Rattle.k_text.proofs.Sorted.{targets_of}
use Rattle.k_solo.proofs.targets.targets.Given as goal

abbrev pub invariant-loop-item : goal.invariant-loop-item
invariant-loop-item l = record {
  all : l.item-items ≡ l.lists.state.exits;
  names : l.names.items ++ targets_of (drop l.item-index l.item-items) l.heap ≡ targets_of l.item-items l.heap;
}
