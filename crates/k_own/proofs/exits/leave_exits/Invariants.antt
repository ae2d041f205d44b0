use Rattle.std.proofs.Common.{◌≡◌, length}
use Rattle.k_own.proofs.Leaving.{IsLeaving}
use Rattle.k_own.proofs.exits.leave_exits.Given as goal

abbrev pub invariant-loop-target : goal.invariant-loop-target
invariant-loop-target l = (l.shared ≡ record l.fn.shared { value = l.shared.value }) × IsLeaving l.fn.shared.value l.shared.value l.fn.book l.book

abbrev pub decreases-loop-target : goal.decreases-loop-target
decreases-loop-target l = length l.shared.value.exits
