use Rattle.k_measure.specs.Inside.{AreInside, HasNoBlack}
use Rattle.k_measure.proofs.wide.roots.Given as goal

abbrev pub invariant-loop-number : goal.invariant-loop-number
invariant-loop-number l = AreInside l.area.segments × HasNoBlack l.area
