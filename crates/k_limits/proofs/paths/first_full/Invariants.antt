use Rattle.std.proofs.Common.{◌≡◌, find}
use Rattle.k_limits.specs.Paths.{InRows, is_over, path_from, steps_left}
use Rattle.k_limits.proofs.paths.first_full.Given as goal

-- what is found on the rest of the path is what is found on the whole
abbrev pub invariant-loop-next : goal.invariant-loop-next
invariant-loop-next l =
    InRows l.rows l.next
    × (find (is_over l.rows l.uses l.n) (path_from l.rows l.next) ≡ find (is_over l.rows l.uses l.n) (path_from l.rows l.fn.from))

abbrev pub decreases-loop-next : goal.decreases-loop-next
decreases-loop-next l = steps_left l.next
