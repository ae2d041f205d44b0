use Rattle.std.proofs.Common.{sym, subst}
use Rattle.std.specs.Prelude.{IfOk}
use Rattle.k_types.specs.Trace.{Trace}
use Rattle.k_run.specs.k_outcome.k_process.Worlds.{WorldValue}
use Rattle.k_run.specs.k_outcome.k_process.Heaps.{value_of}
use Rattle.k_run.specs.k_outcome.k_process.BetweenSteps.{AllStand}
use Rattle.k_run.specs.k_opening.k_still.Opening.{IsSetupOf}
use Rattle.k_run.specs.k_outcome.Listed.{AreRoomsFor}
use Rattle.k_trace.specs.Meaning.{meaning_of}
use Rattle.k_trace.specs.Named.{NamedTrace}
use Rattle.k_top.specs.Watched.{IsWatchedRunOf}
use Rattle.k_run.proofs.Told.{named_told, trace_told, world_told}
use Rattle.k_top.proofs.watched.watch_trace.Goals as goal

pub watch_still-requires-clause-stands : goal.watch_still-requires-clause-stands
watch_still-requires-clause-stands g c = λ κs lives.
    let first = c.in_ok-still.still.cells in
    let opened = c.in_ok-still.ensures.cells in
    subst (λ (w : WorldValue). AllStand w (value_of first.heaps)) (world_told (meaning_of c.args.trace) first opened) opened.stands

pub watch_still-requires-clause-setup : goal.watch_still-requires-clause-setup
watch_still-requires-clause-setup g c = λ κs lives.
    let first = c.in_ok-still.still.cells in
    let opened = c.in_ok-still.ensures.cells in
    subst (λ (w : WorldValue). IsSetupOf first.setup w) (world_told (meaning_of c.args.trace) first opened) opened.setup

pub watch_still-requires-clause-rooms : goal.watch_still-requires-clause-rooms
watch_still-requires-clause-rooms g c = λ κs lives.
    subst (λ (t : Trace). AreRoomsFor t c.in_ok-still.still.rooms) (trace_told (meaning_of c.args.trace) c.in_ok-still.still.cells c.in_ok-still.ensures.cells) c.in_ok-still.ensures.rooms

pub returns : goal.returns
returns g c =
    subst (λ (n : NamedTrace). IfOk c.watch_still.result (λ ended. IsWatchedRunOf n c.args.count ended.0 ended.1.items))
    (sym (named_told (meaning_of c.args.trace) c.in_ok-still.still.cells c.in_ok-still.ensures.cells)) c.watch_still.ensures
