use Rattle.std.proofs.Common.{◌≡◌, length}
use Rattle.k_own.proofs.Leaving.{IsPassing}
use Rattle.k_own.proofs.exits.pass_exits.Given as goal

abbrev pub invariant-loop-target : goal.invariant-loop-target
invariant-loop-target l =
    (l.cell ≡ record l.fn.cell { value = l.cell.value })
    × (l.kernel ≡ record l.fn.kernel { value = l.kernel.value })
    × IsPassing l.fn.book.value.homes l.fn.cell.value l.cell.value l.fn.kernel.value l.kernel.value l.fn.book l.book

abbrev pub decreases-loop-target : goal.decreases-loop-target
decreases-loop-target l = length l.cell.value.exits
