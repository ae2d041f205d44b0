use Rattle.std.proofs.Common.{◌≡◌, length}
use Rattle.k_own.proofs.Leaving.{IsCutting}
use Rattle.k_own.proofs.exits.cut_exits.Given as goal

abbrev pub invariant-loop-target : goal.invariant-loop-target
invariant-loop-target l = (l.kernel ≡ record l.fn.kernel { value = l.kernel.value }) × IsCutting l.seg.0 l.fn.kernel.value l.kernel.value l.fn.book l.book

abbrev pub decreases-loop-target : goal.decreases-loop-target
decreases-loop-target l = length l.kernel.value.exits
