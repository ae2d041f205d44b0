use Rattle.k_trace.specs.Meaning.{meaning_of}
use Rattle.k_runs.proofs.Told.{stands_told, setup_told, rooms_told, run_told}
use Rattle.k_runs.proofs.unrun.end_of.Goals as goal

pub end_opened-requires-clause-stands : goal.end_opened-requires-clause-stands
end_opened-requires-clause-stands g c = stands_told (meaning_of c.args.trace) c.in_ok-still.still c.in_ok-still.ensures

pub end_opened-requires-clause-setup : goal.end_opened-requires-clause-setup
end_opened-requires-clause-setup g c = setup_told (meaning_of c.args.trace) c.in_ok-still.still c.in_ok-still.ensures

pub end_opened-requires-clause-rooms : goal.end_opened-requires-clause-rooms
end_opened-requires-clause-rooms g c = rooms_told (meaning_of c.args.trace) c.in_ok-still.still c.in_ok-still.ensures

pub returns : goal.returns
returns g c = run_told (meaning_of c.args.trace) c.in_ok-still.still c.in_ok-still.ensures c.end_opened.result c.end_opened.ensures
