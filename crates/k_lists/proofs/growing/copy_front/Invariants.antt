use Rattle.std.proofs.Common.{◌≡◌, ◌<◌, ℕ, length, vec_capacity}
use Rattle.k_lists.specs.Linked.{at}
use Rattle.k_lists.proofs.growing.copy_front.Given as goal

abbrev pub invariant-loop-i : goal.invariant-loop-i
invariant-loop-i l = record {
  len : length l.into.items ≡ length l.fn.into.items;
  front : (i : ℕ) → i < l.i → at l.into.items i ≡ at l.links i;
  capacity : vec_capacity l.into ≡ vec_capacity l.fn.into;
}
