use Rattle.std.proofs.Common.{◌∙◌, refl, ap, length, arith}
use Rattle.std.proofs.lemmas.Iterator.Adapters.{YieldsList-from_vec}
use Rattle.std.proofs.lemmas.Iterator.Consumers.{YieldsList-end, YieldsList-turn}
use Rattle.std.proofs.lemmas.List.{length_push}
use Rattle.std.proofs.lemmas.Option.{slice_get_read}
use Rattle.k_locks.proofs.locks.lock_processes.Goals as goal

pub loop-process-init : goal.loop-process-init
loop-process-init g c = record { count = ap length c.requires.room.empty; room = c.requires.room.room }

pub of-requires : goal.of-requires
of-requires g c =
    let road = YieldsList-from_vec {s = c.into_iter-process-iterator.result} c.args.processes.items c.into_iter-process-iterator.ensures.into_iter_gives.0 (c.into_iter-process-iterator.ensures.into_iter_gives.1 ∙ c.args.processes.ok.0) in
    let turn = YieldsList-turn road c.loop-process.yielded _ c.loop-process.yielded_by _ c.next.new.self c.in-Some.process c.in-Some.is c.next.ensures.steps in
    c.requires.stand.each (length c.loop-process.yielded) c.in-Some.process (slice_get_read c.args.processes.items (length c.args.processes.items) (length c.loop-process.yielded) c.in-Some.process refl turn.0 turn.1)

pub push_reserved-requires : goal.push_reserved-requires
push_reserved-requires g c =
    let road = YieldsList-from_vec {s = c.into_iter-process-iterator.result} c.args.processes.items c.into_iter-process-iterator.ensures.into_iter_gives.0 (c.into_iter-process-iterator.ensures.into_iter_gives.1 ∙ c.args.processes.ok.0) in
    let turn = YieldsList-turn road c.loop-process.yielded _ c.loop-process.yielded_by _ c.next.new.self c.in-Some.process c.in-Some.is c.next.ensures.steps in
    omega (arith, c.loop-process.locks.ok.0, turn.0, c.loop-process.invariant.count, c.loop-process.invariant.room)

pub loop-process-preserved : goal.loop-process-preserved
loop-process-preserved g c = record {
  count = omega (
    arith,
    ap length c.push_reserved.ensures.items,
    length_push c.loop-process.locks.items c.new.result,
    length_push c.loop-process.yielded c.in-Some.process,
    c.loop-process.invariant.count,
  );
  room = omega (arith, c.push_reserved.ensures.capacity, c.loop-process.invariant.room);
}

pub returns : goal.returns
returns g c =
    let road = YieldsList-from_vec {s = c.into_iter-process-iterator.result} c.args.processes.items c.into_iter-process-iterator.ensures.into_iter_gives.0 (c.into_iter-process-iterator.ensures.into_iter_gives.1 ∙ c.args.processes.ok.0) in
    let end = YieldsList-end road c.loop-process.yielded _ c.loop-process.yielded_by _ c.next.new.self c.in-None.is c.next.ensures.steps in
    c.loop-process.invariant.count ∙ end.1
