use Rattle.std.proofs.Common.{refl, sym, subst}
use Rattle.k_locks.specs.Places.{ArePlaces}
use Rattle.k_locks.proofs.Gathered.{all_free, free_places, gathered}
use Rattle.k_locks.proofs.locks.gather.Goals as goal

pub loop-lock-init : goal.loop-lock-init
loop-lock-init g c = record {
  places = subst (ArePlaces g.W.WorldName.world) (sym c.requires.places) (free_places g.W.WorldName.world);
  all = all_free c.args.places.items _ _ c.requires.places c.requires.locks;
  book = refl;
}

pub returns-clause-processes : goal.returns-clause-processes
returns-clause-processes g c = gathered g.W.WorldName.world c.loop-lock.places.items c.in_order.result.items c.loop-lock.invariant.places c.in_order.ensures
