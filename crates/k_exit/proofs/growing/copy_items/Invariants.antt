use Rattle.std.proofs.Common.{◌≡◌, take, vec_capacity}
use Rattle.k_exit.proofs.growing.copy_items.Given as goal

abbrev pub invariant-loop-item : goal.invariant-loop-item
invariant-loop-item l = (l.into.items ≡ take l.item-index l.items) × (vec_capacity l.into ≡ vec_capacity l.fn.into)
