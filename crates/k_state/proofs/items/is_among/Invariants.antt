use Rattle.std.proofs.Common.{◌≡◌, drop}
use Rattle.k_types.specs.Names.{among}
use Rattle.k_state.proofs.items.is_among.Given as goal

abbrev pub invariant-loop-m : goal.invariant-loop-m
invariant-loop-m l = among l.n l.numbers ≡ among l.n (drop l.m-index l.numbers)
