use Rattle.std.proofs.Common.{◌≡◌, ◌++◌, drop, map}
use Rattle.k_trace.proofs.names.list_of.Given as goal

abbrev pub invariant-loop-name : goal.invariant-loop-name
invariant-loop-name l = l.list ++ drop l.name-index (map (λ name. name.items) l.names) ≡ map (λ name. name.items) l.names
