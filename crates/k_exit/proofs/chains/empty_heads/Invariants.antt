use Rattle.std.proofs.Common.{◌≡◌, ℕ, replicate, vec_capacity}
use Rattle.k_exit.proofs.chains.empty_heads.Given as goal

abbrev pub invariant-loop-i : goal.invariant-loop-i
invariant-loop-i l = (l.heads.items ≡ replicate {A = ℕ} l.i 0) × (vec_capacity l.heads ≡ l.chains)
