use Rattle.std.proofs.lemmas.Option.{slice_get-get_or}
use Rattle.k_limits.proofs.Making.{handed_on}
use Rattle.k_print.specs.Printed.{IsNotPrinted}
use Rattle.k_print.proofs.Tested.{tested_next, tested_not}
use Rattle.k_print.proofs.testing.tested.Goals as goal

pub returns-in_err-done-clause-why : goal.returns-in_err-done-clause-why
returns-in_err-done-clause-why c =
    λ j same. handed_on (IsNotPrinted j) c.from_residual.result c.in_err-done.field-0.0 c.from_residual.ensures.1
    (tested_not c.args.events.now c.loop-event.event-index _ (slice_get-get_or c.args.events.now c.loop-event.event-index _ c.loop-event-test.true) c.loop-event.done c.loop-event.invariant j same c.in_err-done.field-0.0 c.in_err-done.ensures.why)

pub loop-event-preserved : goal.loop-event-preserved
loop-event-preserved c =
    tested_next c.args.events.now c.loop-event.event-index _ (slice_get-get_or c.args.events.now c.loop-event.event-index _ c.loop-event-test.true) c.loop-event.done c.loop-event.invariant
    c.in_ok-done.done c.in_ok-done.ensures.count c.in_ok-done.ensures.few c.in_ok-done.ensures.spelled
