use Rattle.std.proofs.Common.{◌≡◌}
use Rattle.k_shares.specs.Places.{bit_of}
use Rattle.k_shares.proofs.Walks.{any_since}
use Rattle.k_shares.proofs.bits.is_shared.Given as goal

abbrev pub invariant-loop-p : goal.invariant-loop-p
invariant-loop-p l = any_since (λ p. bit_of l.heaps l.bits p l.heap) l.procs l.p ≡ any_since (λ p. bit_of l.heaps l.bits p l.heap) l.procs 0
