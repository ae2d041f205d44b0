use Rattle.std.proofs.Common.{◌≡◌, None, replicate}
use Rattle.k_state.proofs.opening.null_registers.Given as goal

abbrev pub invariant-loop : goal.invariant-loop
invariant-loop l = l.registers.items ≡ replicate l.counter (replicate 16 None)
