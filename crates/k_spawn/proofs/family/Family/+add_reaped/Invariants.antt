use Rattle.std.proofs.Common.{◌≡◌, ◌++◌, ◌-◌, map}
use Rattle.k_spawn.proofs.Reaped.{lists_from}
use Rattle.k_spawn.proofs.family.Family.+add_reaped.Given as goal

abbrev pub decreases-add_reaped : goal.decreases-add_reaped
decreases-add_reaped l = l.depth

abbrev pub invariant-loop-place : goal.invariant-loop-place
invariant-loop-place l =
    map (λ it. it.0) l.fn.list.items ++ lists_from l.self (l.depth - 1) l.pid.0 0
    ≡ map (λ it. it.0) l.list.items ++ lists_from l.self (l.depth - 1) l.pid.0 l.place
