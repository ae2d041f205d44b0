use Rattle.k_measure.specs.Inside.{AreInside}
use Rattle.k_measure.proofs.wide.mark_rounds.Given as goal

abbrev pub invariant-loop-round : goal.invariant-loop-round
invariant-loop-round l = AreInside l.area.segments
