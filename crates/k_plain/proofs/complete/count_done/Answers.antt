use Rattle.k_plain.proofs.DoneOperations.{other_done}
use Rattle.k_plain.proofs.complete.count_done.Goals as goal

pub returns-in-None-clause-none : goal.returns-in-None-clause-none
returns-in-None-clause-none c =
    other_done c.args.pid.0 c.args.events.now c.args.ops.now c.loop-event.done c.loop-event.event-index _ c.loop-event.invariant.done c.loop-event-test.true
    c.in-None.ensures.none
