use Rattle.std.proofs.Common.{List, refl, sym, ap, subst, ◌∙◌, arith}
use Rattle.k_laws.specs.k_types.declared.names.Name.{Name}
use Rattle.k_space.specs.Segments.{SegmentValue}
use Rattle.k_mark.proofs.SweepSteps.{goes_on, ends}
use Rattle.k_mark.proofs.Telling.{IsTelling, one_less, telling_begins, telling_ends, telling_goes_on}
use Rattle.k_mark.proofs.sweeping.sweep_segment.Goals as goal

pub loop-gone-init : goal.loop-gone-init
loop-gone-init g c = record {
  sweeping = record {
    number = refl;
    room = refl;
    survivors = refl;
    objects_are = refl;
    bytes_are = refl;
  };
  room = refl;
  telling = λ fits. telling_begins c.args.segment.now (g.L.Listener.heard c.args.listener.now);
}

pub loop-gone-preserved : goal.loop-gone-preserved
loop-gone-preserved g c = record {
  sweeping =
      (goes_on c.args.segment.now c.loop-gone.segment c.free_unmarked.new.self c.loop-gone.from_dead.objects c.loop-gone.from_dead.bytes c.args.from_dead.now.objects c.args.from_dead.now.bytes c.in-Some.gone c.loop-gone.invariant.sweeping c.in-Some.ensures.freed).0;
  room = c.hear.ensures.room ∙ c.loop-gone.invariant.room;
  telling = λ fits.
      let was = c.loop-gone.invariant.telling fits in
      let all = was.more in
      let room = c.loop-gone.invariant.room in
      let less = one_less c.loop-gone.segment c.free_unmarked.new.self c.in-Some.gone c.in-Some.ensures.freed in
      let heard = c.hear.ensures.heard (omega (arith, fits, all, room, less)) in
      let seg = c.number.ensures.value ∙ ap (λ (s : SegmentValue). s.number) c.in-Some.ensures.freed.freed in
      subst (λ (names : List Name). IsTelling c.args.segment.now c.free_unmarked.new.self (g.L.Listener.heard c.args.listener.now) names) (sym heard)
      (telling_goes_on c.loop-gone.segment c.free_unmarked.new.self c.in-Some.gone c.in-Some.ensures.freed c.args.segment.now (g.L.Listener.heard c.args.listener.now) (g.L.Listener.heard c.loop-gone.listener) _ was seg refl);
}

pub loop-gone-smaller : goal.loop-gone-smaller
loop-gone-smaller g c =
    (goes_on c.args.segment.now c.loop-gone.segment c.free_unmarked.new.self c.loop-gone.from_dead.objects c.loop-gone.from_dead.bytes c.args.from_dead.now.objects c.args.from_dead.now.bytes c.in-Some.gone c.loop-gone.invariant.sweeping c.in-Some.ensures.freed).1

pub returns-clause-segment : goal.returns-clause-segment
returns-clause-segment g c =
    c.in_default.ensures.kept ∙ (ends c.args.segment.now c.loop-gone.segment c.loop-gone.from_dead.objects c.loop-gone.from_dead.bytes c.args.from_dead.now.objects c.args.from_dead.now.bytes c.loop-gone.invariant.sweeping c.in_default.ensures.none).0

pub returns-clause-objects : goal.returns-clause-objects
returns-clause-objects g c =
    (ends c.args.segment.now c.loop-gone.segment c.loop-gone.from_dead.objects c.loop-gone.from_dead.bytes c.args.from_dead.now.objects c.args.from_dead.now.bytes c.loop-gone.invariant.sweeping c.in_default.ensures.none).1

pub returns-clause-bytes : goal.returns-clause-bytes
returns-clause-bytes g c =
    (ends c.args.segment.now c.loop-gone.segment c.loop-gone.from_dead.objects c.loop-gone.from_dead.bytes c.args.from_dead.now.objects c.args.from_dead.now.bytes c.loop-gone.invariant.sweeping c.in_default.ensures.none).2

pub returns-clause-told : goal.returns-clause-told
returns-clause-told g c = λ fits.
    let all = (ends c.args.segment.now c.loop-gone.segment c.loop-gone.from_dead.objects c.loop-gone.from_dead.bytes c.args.from_dead.now.objects c.args.from_dead.now.bytes c.loop-gone.invariant.sweeping c.in_default.ensures.none).1 in
    let so_far = c.loop-gone.invariant.sweeping.objects_are in
    telling_ends c.args.segment.now c.loop-gone.segment (g.L.Listener.heard c.args.listener.now) (g.L.Listener.heard c.loop-gone.listener) (c.loop-gone.invariant.telling fits) (omega (arith, all, so_far)) c.in_default.ensures.none
