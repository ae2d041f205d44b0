use Rattle.std.proofs.Common.{◌∙◌, refl, ap, length, arith}
use Rattle.std.proofs.lemmas.Iterator.Adapters.{YieldsList-from_vec}
use Rattle.std.proofs.lemmas.Iterator.Consumers.{YieldsList-end, YieldsList-turn}
use Rattle.std.proofs.lemmas.List.{length_push}
use Rattle.std.proofs.lemmas.Option.{slice_get_read}
use Rattle.k_locks.proofs.locks.lock_shared.Goals as goal

pub loop-cell-init : goal.loop-cell-init
loop-cell-init g c = record { count = ap length c.requires.room.empty; room = c.requires.room.room }

pub of-requires : goal.of-requires
of-requires g c =
    let road = YieldsList-from_vec {s = c.into_iter-cell-iterator.result} c.args.shared.items c.into_iter-cell-iterator.ensures.into_iter_gives.0 (c.into_iter-cell-iterator.ensures.into_iter_gives.1 ∙ c.args.shared.ok.0) in
    let turn = YieldsList-turn road c.loop-cell.yielded _ c.loop-cell.yielded_by _ c.next.new.self c.in-Some.cell c.in-Some.is c.next.ensures.steps in
    c.requires.stand.each (length c.loop-cell.yielded) c.in-Some.cell (slice_get_read c.args.shared.items (length c.args.shared.items) (length c.loop-cell.yielded) c.in-Some.cell refl turn.0 turn.1)

pub push_reserved-requires : goal.push_reserved-requires
push_reserved-requires g c =
    let road = YieldsList-from_vec {s = c.into_iter-cell-iterator.result} c.args.shared.items c.into_iter-cell-iterator.ensures.into_iter_gives.0 (c.into_iter-cell-iterator.ensures.into_iter_gives.1 ∙ c.args.shared.ok.0) in
    let turn = YieldsList-turn road c.loop-cell.yielded _ c.loop-cell.yielded_by _ c.next.new.self c.in-Some.cell c.in-Some.is c.next.ensures.steps in
    omega (arith, c.loop-cell.locks.ok.0, turn.0, c.loop-cell.invariant.count, c.loop-cell.invariant.room)

pub loop-cell-preserved : goal.loop-cell-preserved
loop-cell-preserved g c = record {
  count = omega (
    arith,
    ap length c.push_reserved.ensures.items,
    length_push c.loop-cell.locks.items c.new.result,
    length_push c.loop-cell.yielded c.in-Some.cell,
    c.loop-cell.invariant.count,
  );
  room = omega (arith, c.push_reserved.ensures.capacity, c.loop-cell.invariant.room);
}

pub returns : goal.returns
returns g c =
    let road = YieldsList-from_vec {s = c.into_iter-cell-iterator.result} c.args.shared.items c.into_iter-cell-iterator.ensures.into_iter_gives.0 (c.into_iter-cell-iterator.ensures.into_iter_gives.1 ∙ c.args.shared.ok.0) in
    let end = YieldsList-end road c.loop-cell.yielded _ c.loop-cell.yielded_by _ c.next.new.self c.in-None.is c.next.ensures.steps in
    c.loop-cell.invariant.count ∙ end.1
