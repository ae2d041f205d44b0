use Rattle.std.proofs.Common.{length, map, Some, ◌∷◌, [], ◌++◌, sym, ap, ◌∙◌, arith}
use Rattle.std.proofs.lemmas.Iterator.Adapters.{YieldsList-from_vec}
use Rattle.std.proofs.lemmas.Iterator.Consumers.{YieldsList-end, YieldsList-turn}
use Rattle.std.proofs.lemmas.List.{length-map}
use Rattle.k_locks.proofs.Places.{mapped_all, mapped_push, none_free}
use Rattle.k_locks.proofs.placing.in_order.Goals as goal

pub loop-place-init : goal.loop-place-init
loop-place-init g c = record { taken = ap (λ xs. map Some xs) c.requires.empty; room = c.requires.room }

pub unreachable-requires : goal.unreachable-requires
unreachable-requires g c =
    let road = YieldsList-from_vec {s = c.into_iter-place-iterator.result} c.args.places.items c.into_iter-place-iterator.ensures.into_iter_gives.0 (c.into_iter-place-iterator.ensures.into_iter_gives.1 ∙ c.args.places.ok.0) in
    let turn = YieldsList-turn road c.loop-place.yielded _ c.loop-place.yielded_by _ c.next.new.self c.in-Some.place c.in-Some.is c.next.ensures.steps in
    none_free c.args.places.items (length c.loop-place.yielded) c.in-Some.place c.requires.filled turn.0 turn.1 c.in_default.is

pub push_reserved-requires : goal.push_reserved-requires
push_reserved-requires g c =
    let road = YieldsList-from_vec {s = c.into_iter-place-iterator.result} c.args.places.items c.into_iter-place-iterator.ensures.into_iter_gives.0 (c.into_iter-place-iterator.ensures.into_iter_gives.1 ∙ c.args.places.ok.0) in
    let turn = YieldsList-turn road c.loop-place.yielded _ c.loop-place.yielded_by _ c.next.new.self c.in-Some.place c.in-Some.is c.next.ensures.steps in
    let many = sym (length-map c.loop-place.into.items Some) ∙ ap length c.loop-place.invariant.taken in
    omega (arith, turn.0, many, c.loop-place.invariant.room, c.loop-place.into.ok.0)

pub loop-place-preserved : goal.loop-place-preserved
loop-place-preserved g c = record {
  taken = ap (λ xs. map Some xs) c.push_reserved.ensures.items
      ∙ mapped_push Some c.loop-place.into.items c.in-Some-place.item
      ∙ ap (λ xs. xs ++ Some c.in-Some-place.item ∷ []) c.loop-place.invariant.taken
      ∙ ap (λ place. c.loop-place.yielded ++ place ∷ []) (sym c.in-Some-place.is);
  room = omega (arith, c.push_reserved.ensures.capacity, c.loop-place.invariant.room);
}

pub returns : goal.returns
returns g c =
    let road = YieldsList-from_vec {s = c.into_iter-place-iterator.result} c.args.places.items c.into_iter-place-iterator.ensures.into_iter_gives.0 (c.into_iter-place-iterator.ensures.into_iter_gives.1 ∙ c.args.places.ok.0) in
    let end = YieldsList-end road c.loop-place.yielded _ c.loop-place.yielded_by _ c.next.new.self c.in-None.is c.next.ensures.steps in
    c.loop-place.invariant.taken ∙ sym (mapped_all c.loop-place.yielded) ∙ end.0
