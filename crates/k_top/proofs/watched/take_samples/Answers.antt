use Rattle.std.proofs.Common.{◌∷◌, ◌++◌, [], List, length, ap, arith, refl, sym, subst, ◌∙◌}
use Rattle.std.proofs.lemmas.List.{length_push}
use Rattle.k_run.specs.k_watch.declared.sample.Sample.{Sample}
use Rattle.k_run.specs.k_watch.Samples.{AllBelow, IsRising}
use Rattle.k_run.specs.k_watch.Values.{WatcherValue}
use Rattle.k_run.proofs.SampleLists.{rising_one_more}
use Rattle.k_top.proofs.watched.take_samples.Goals as goal

pub push_reserved-requires : goal.push_reserved-requires
push_reserved-requires g c = omega (arith, c.loop-taken.invariant.count, c.loop-taken.invariant.room)

pub loop-taken-init : goal.loop-taken-init
loop-taken-init g c = record {
  cell = refl;
  same = c.requires.room.empty ∙ sym c.requires.none;
  count = ap length c.requires.room.empty;
  rising = subst IsRising (sym c.requires.room.empty) tt;
  room = c.requires.room.room;
}

pub loop-taken-preserved : goal.loop-taken-preserved
loop-taken-preserved g c = record {
  cell = ap (λ (w : WatcherValue). w.cell) c.sample.ensures.taken ∙ c.loop-taken.invariant.cell;
  same =
      c.push_reserved.ensures.items
      ∙ ap (λ (ss : List Sample). ss ++ c.sample.result ∷ []) c.loop-taken.invariant.same
      ∙ sym (ap (λ (w : WatcherValue). w.samples) c.sample.ensures.taken);
  count = omega (arith, ap length c.push_reserved.ensures.items, length_push c.loop-taken.samples.items c.sample.result, c.loop-taken.invariant.count);
  rising = subst IsRising (sym c.push_reserved.ensures.items)
      (rising_one_more c.loop-taken.samples.items c.sample.result c.loop-taken.invariant.rising (subst (AllBelow c.sample.result.events) (sym c.loop-taken.invariant.same) c.sample.ensures.rises));
  room = omega (arith, c.push_reserved.ensures.capacity, c.loop-taken.invariant.room);
}

pub returns : goal.returns
returns g c = record {
  cell_is = c.loop-taken.invariant.cell;
  same = c.loop-taken.invariant.same;
  taken = omega (arith, c.loop-taken.invariant.count);
  rising = c.loop-taken.invariant.rising;
  room = c.loop-taken.invariant.room;
}
