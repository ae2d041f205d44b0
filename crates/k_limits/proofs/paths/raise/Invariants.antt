use Rattle.std.proofs.Common.{◌≡◌, ℕ, ◌+◌, ◌*◌, ◌<◌, length, slice_index}
use Rattle.k_limits.specs.Paths.{InRows, path_from, steps_left, times_on}
use Rattle.k_limits.proofs.paths.raise.Given as goal

-- with what the rest of the path will add, each use is what it is to be
abbrev pub invariant-loop-next : goal.invariant-loop-next
invariant-loop-next l =
    InRows l.rows l.next
    × (length l.uses ≡ length l.rows)
    × ((m : ℕ) → m < length l.rows → slice_index l.uses m + l.n * times_on (path_from l.rows l.next) m ≡ slice_index l.initial.uses m + l.n * times_on (path_from l.rows l.fn.from) m)

abbrev pub decreases-loop-next : goal.decreases-loop-next
decreases-loop-next l = steps_left l.next
