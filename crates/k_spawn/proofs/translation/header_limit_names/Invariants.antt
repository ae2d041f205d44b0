use Rattle.std.proofs.Common.{◌≡◌, ◌++◌, drop}
use Rattle.k_spawn.proofs.Copied.{texts}
use Rattle.k_spawn.proofs.translation.header_limit_names.Given as goal

abbrev pub invariant-loop-number : goal.invariant-loop-number
invariant-loop-number l = texts l.list.items ++ drop l.number l.names.limits ≡ l.names.limits
