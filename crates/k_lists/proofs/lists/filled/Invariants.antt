use Rattle.std.proofs.Common.{◌≡◌, replicate, vec_capacity}
use Rattle.k_lists.proofs.lists.filled.Given as goal

abbrev pub invariant-loop-i : goal.invariant-loop-i
invariant-loop-i g l = (l.values.items ≡ replicate l.i l.value) × (vec_capacity l.values ≡ l.len)
