use Rattle.std.proofs.Common.{◌≡◌, List, [], ◌∷◌, Some, ap, subst, sym, ◌∙◌, arith}
use Rattle.std.specs.Prelude.{OnOk}
use Rattle.k_types.specs.declared.event.Event.{Event}
use Rattle.k_types.specs.declared.event.Event.TheVariants.{Done}
use Rattle.k_types.specs.FileOrder.{end_of, heap_begun, with_end}
use Rattle.k_types.specs.Replies.{reply_to}
use Rattle.k_filed.specs.Taken.{HasTaken}
use Rattle.k_filed.proofs.Joined.{tail_taken, taken_room}
use Rattle.k_filed.proofs.taking.take_whole_operation.Goals as goal

pub end-requires-clause-room : goal.end-requires-clause-room
end-requires-clause-room c =
    let m = c.args.state.now in
    taken_room 2 1 m c.take_operation.new.state c.args.events.now.items c.take_operation.new.events.items
    (Done c.args.pid c.args.op.now (reply_to m.setup m.state c.args.pid.0 c.args.op.now) ∷ []) (omega arith) c.in_ok-take_operation.ensures c.requires.room

pub returns-in-Some : goal.returns-in-Some
returns-in-Some c =
    let m = c.args.state.now in
    let event : Event = Done c.args.pid c.args.op.now (reply_to m.setup m.state c.args.pid.0 c.args.op.now) in
    let begun : heap_begun c.args.pid.0 c.args.op.now ≡ Some c.in-Some.heap = sym c.heap_begun.ensures ∙ c.in-Some.is in
    subst (λ (es : List Event). OnOk c.end.result (HasTaken m c.end.new.state c.args.events.now.items c.end.new.events.items es))
    (ap (with_end m.setup m.state event) (sym begun))
    (tail_taken c.end.result m c.take_operation.new.state c.end.new.state c.args.events.now.items c.take_operation.new.events.items c.end.new.events.items (event ∷ [])
    (λ trace st. end_of trace st c.in-Some.heap ∷ []) c.in_ok-take_operation.ensures c.end.ensures)
