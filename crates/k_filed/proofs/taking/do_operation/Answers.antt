use Rattle.std.proofs.Common.{arith}
use Rattle.k_types.specs.declared.event.Event.TheVariants.{Done}
use Rattle.k_types.specs.FileOrder.{heap_begun, with_end}
use Rattle.k_types.specs.Replies.{reply_to}
use Rattle.k_types.specs.Steps.{run}
use Rattle.k_laws.proofs.Histories.{legal_front}
use Rattle.k_filed.specs.Taken.{first_events}
use Rattle.k_filed.proofs.Joined.{tail_legal, tail_taken, taken_room}
use Rattle.k_filed.proofs.Absorptions.{few_first}
use Rattle.k_filed.proofs.taking.do_operation.Goals as goal

pub absorb_before-requires-clause-legal : goal.absorb_before-requires-clause-legal
absorb_before-requires-clause-legal c =
    let m = c.args.state.now in
    let op = c.args.op.now in
    let now = run m.setup m.state (first_events m.setup m.state op) in
    legal_front m.setup m.state (first_events m.setup m.state op)
    (with_end m.setup now (Done c.args.pid op (reply_to m.setup now c.args.pid.0 op)) (heap_begun c.args.pid.0 op)) c.requires.legal

pub take_whole_operation-requires-clause-legal : goal.take_whole_operation-requires-clause-legal
take_whole_operation-requires-clause-legal c =
    let m = c.args.state.now in
    let op = c.args.op.now in
    tail_legal m c.absorb_before.new.state c.args.events.now.items c.absorb_before.new.events.items (first_events m.setup m.state op)
    (λ trace st. with_end trace st (Done c.args.pid op (reply_to trace st c.args.pid.0 op)) (heap_begun c.args.pid.0 op)) c.in_ok-absorb_before.ensures c.requires.legal

pub take_whole_operation-requires-clause-room : goal.take_whole_operation-requires-clause-room
take_whole_operation-requires-clause-room c =
    let m = c.args.state.now in
    let op = c.args.op.now in
    taken_room 66 2 m c.absorb_before.new.state c.args.events.now.items c.absorb_before.new.events.items (first_events m.setup m.state op)
    (let few = few_first m.setup m.state op in omega (arith, few, c.requires.few)) c.in_ok-absorb_before.ensures c.requires.room

pub returns : goal.returns
returns c =
    let m = c.args.state.now in
    let op = c.args.op.now in
    tail_taken c.take_whole_operation.result m c.absorb_before.new.state c.take_whole_operation.new.state c.args.events.now.items c.absorb_before.new.events.items
    c.take_whole_operation.new.events.items (first_events m.setup m.state op)
    (λ trace st. with_end trace st (Done c.args.pid op (reply_to trace st c.args.pid.0 op)) (heap_begun c.args.pid.0 op)) c.in_ok-absorb_before.ensures c.take_whole_operation.ensures
