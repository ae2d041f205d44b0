use Rattle.std.proofs.Common.{[]}
use Rattle.std.proofs.lemmas.Option.{slice_get-get_or}
use Rattle.k_types.specs.Trace.{trace_of}
use Rattle.k_print.proofs.Stepped.{may_be_taken, no_event, room_to_take, stepped_next}
use Rattle.k_print.proofs.stepping.stepped.Goals as goal

pub take-requires-clause-possible : goal.take-requires-clause-possible
take-requires-clause-possible c =
    may_be_taken (trace_of c.args.setup.now [] []) c.args.events.now c.requires.legal c.requires.few c.loop-event.event-index _ (slice_get-get_or c.args.events.now c.loop-event.event-index _ c.loop-event-test.true)
    c.loop-event.state c.loop-event.invariant

pub take-requires-clause-room : goal.take-requires-clause-room
take-requires-clause-room c =
    room_to_take (trace_of c.args.setup.now [] []) c.args.events.now c.requires.legal c.requires.few c.loop-event.event-index _ (slice_get-get_or c.args.events.now c.loop-event.event-index no_event c.loop-event-test.true)
    c.loop-event.state c.loop-event.invariant

pub loop-event-preserved : goal.loop-event-preserved
loop-event-preserved c =
    stepped_next (trace_of c.args.setup.now [] []) c.args.events.now c.requires.legal c.requires.few c.loop-event.event-index _ (slice_get-get_or c.args.events.now c.loop-event.event-index _ c.loop-event-test.true)
    c.loop-event.state c.loop-event.invariant c.take.new.self c.take.ensures.setup c.in_ok-take.ensures.state
