use Rattle.std.proofs.Common.{◌∙◌, refl, sym, ap, length, map}
use Rattle.std.specs.Arc.{arc_value}
use Rattle.std.proofs.lemmas.Iterator.Adapters.{YieldsList-from_vec}
use Rattle.std.proofs.lemmas.Iterator.Consumers.{YieldsList-end, YieldsList-turn}
use Rattle.std.proofs.lemmas.List.{map-id}
use Rattle.std.proofs.lemmas.Option.{slice_get_read}
use Rattle.k_parts.specs.Parts.{shared_seen}
use Rattle.k_parts.proofs.Splits.{seen_more}
use Rattle.k_parts.proofs.splitting.split_heaps.Goals as goal

pub loop-heap-init : goal.loop-heap-init
loop-heap-init g c = c.new-made.ensures.items

pub of-requires : goal.of-requires
of-requires g c =
    let road = YieldsList-from_vec {s = c.into_iter-heap-iterator.result} c.args.heaps.items c.into_iter-heap-iterator.ensures.into_iter_gives.0 (c.into_iter-heap-iterator.ensures.into_iter_gives.1 ∙ c.args.heaps.ok.0) in
    let turn = YieldsList-turn road c.loop-heap.yielded _ c.loop-heap.yielded_by _ c.next.new.self c.in-Some.heap c.in-Some.is c.next.ensures.steps in
    c.requires (length c.loop-heap.yielded) c.in-Some.heap (slice_get_read c.args.heaps.items (length c.args.heaps.items) (length c.loop-heap.yielded) c.in-Some.heap refl turn.0 turn.1)

pub loop-heap-preserved : goal.loop-heap-preserved
loop-heap-preserved g c =
    seen_more (shared_seen (arc_value c.args.head.now)) c.loop-heap.yielded c.in-Some.heap c.loop-heap.made.items _ c.in_ok-of.field-0 c.in_ok-push.ensures.items c.loop-heap.invariant c.in_ok-of.ensures

pub returns : goal.returns
returns g c =
    let road = YieldsList-from_vec {s = c.into_iter-heap-iterator.result} c.args.heaps.items c.into_iter-heap-iterator.ensures.into_iter_gives.0 (c.into_iter-heap-iterator.ensures.into_iter_gives.1 ∙ c.args.heaps.ok.0) in
    let end = YieldsList-end road c.loop-heap.yielded _ c.loop-heap.yielded_by _ c.next.new.self c.in-None.is c.next.ensures.steps in
    c.loop-heap.invariant ∙ ap (map (shared_seen (arc_value c.args.head.now))) (sym (map-id c.loop-heap.yielded) ∙ end.0)
