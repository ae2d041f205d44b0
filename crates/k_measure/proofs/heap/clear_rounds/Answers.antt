use Rattle.std.proofs.Common.{sym, subst}
use Rattle.k_space.specs.Areas.{AreaValue}
use Rattle.k_measure.specs.Inside.{IsOne}
use Rattle.k_measure.proofs.Inside.{one_unmarked}
use Rattle.k_measure.proofs.heap.clear_rounds.Goals as goal

pub loop-round-preserved : goal.loop-round-preserved
loop-round-preserved c = subst (λ (a : AreaValue). IsOne a) (sym c.clear.ensures.area) (one_unmarked c.loop-round.heap c.loop-round.invariant)
