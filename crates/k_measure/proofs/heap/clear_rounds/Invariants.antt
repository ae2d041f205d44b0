use Rattle.k_measure.specs.Inside.{IsOne}
use Rattle.k_measure.proofs.heap.clear_rounds.Given as goal

abbrev pub invariant-loop-round : goal.invariant-loop-round
invariant-loop-round l = IsOne l.heap
