use Rattle.std.proofs.Common.{◌≡◌}
use Rattle.k_spawn.specs.Translated.{idle}
use Rattle.k_spawn.proofs.translation.idle.Given as goal

abbrev pub invariant-loop : goal.invariant-loop
invariant-loop l = l.operations ≡ idle l.counter
