use Rattle.std.proofs.Common.{◌≡◌}
use Rattle.k_types.specs.Names.{among}
use Rattle.k_types.specs.Limits.{ancestors_of}
use Rattle.k_limits.specs.Paths.{InRows, ancestry_from, steps_left}
use Rattle.k_limits.proofs.paths.is_below.Given as goal

-- the ancestors that are left tell as much as all
abbrev pub invariant-loop-next : goal.invariant-loop-next
invariant-loop-next l =
    InRows l.rows l.next × (among l.upper.0 (ancestry_from l.rows l.next) ≡ among l.upper.0 (ancestors_of l.rows l.fn.lower.0))

abbrev pub decreases-loop-next : goal.decreases-loop-next
decreases-loop-next l = steps_left l.next
