use Rattle.std.proofs.Common.{refl, sym, subst}
use Rattle.k_locks.specs.Places.{ArePlacesShared}
use Rattle.k_locks.proofs.Gathered.{all_free, free_shared_places, gathered_shared}
use Rattle.k_locks.proofs.locks.gather_shared.Goals as goal

pub loop-lock-init : goal.loop-lock-init
loop-lock-init g c = record {
  places = subst (ArePlacesShared g.W.WorldName.world) (sym c.requires.places) (free_shared_places g.W.WorldName.world);
  all = all_free c.args.places.items _ _ c.requires.places c.requires.locks;
  book = refl;
}

pub returns-clause-shared : goal.returns-clause-shared
returns-clause-shared g c = gathered_shared g.W.WorldName.world c.loop-lock.places.items c.in_order.result.items c.loop-lock.invariant.places c.in_order.ensures
