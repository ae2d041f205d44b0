use Rattle.std.proofs.Common.{◌≡◌}
use Rattle.k_measure.specs.Inside.{KeepsInside}
use Rattle.k_measure.proofs.heap.link.Given as goal

abbrev pub invariant-loop-i : goal.invariant-loop-i
invariant-loop-i l = KeepsInside l.segment × (l.segment.number ≡ l.fn.segment.number)
