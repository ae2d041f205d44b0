use Rattle.std.proofs.Common.{[], ◌∷◌, arith}
use Rattle.k_types.specs.declared.event.Event.TheVariants.{Closing}
use Rattle.k_types.specs.declared.names.Heap.TheVariants.{Kernel}
use Rattle.k_types.specs.FileOrder.{end_of}
use Rattle.k_filed.proofs.Joined.{tail_taken, taken_room}
use Rattle.k_filed.proofs.taking.take_closing.Goals as goal

pub end-requires-clause-room : goal.end-requires-clause-room
end-requires-clause-room c =
    taken_room 2 1 c.args.state.now c.take.new.state c.args.events.now.items c.take.new.events.items (Closing ∷ []) (omega arith) c.in_ok-take.ensures c.requires.room

pub returns : goal.returns
returns c =
    tail_taken c.end.result c.args.state.now c.take.new.state c.end.new.state c.args.events.now.items c.take.new.events.items c.end.new.events.items (Closing ∷ [])
    (λ trace st. end_of trace st Kernel ∷ []) c.in_ok-take.ensures c.end.ensures
