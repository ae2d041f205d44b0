use Rattle.k_keeper.specs.Keeping.{IsKept}
use Rattle.k_keeper.specs.Kept.{HaveAbsorbed}
use Rattle.k_keeper.proofs.absorbing.absorb_all.Given as goal

abbrev pub invariant-loop-id : goal.invariant-loop-id
invariant-loop-id l = record {
  kept : IsKept l.host l.rest;
  absorbed : HaveAbsorbed l.fn.host l.host l.fn.left l.rest;
}

abbrev pub decreases-loop-id : goal.decreases-loop-id
decreases-loop-id l = l.rest
