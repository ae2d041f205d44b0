use Rattle.k_trace.specs.Meaning.{meaning_of}
use Rattle.k_runs.proofs.Ended.{named_in_run}
use Rattle.k_runs.proofs.unrun.unrun_end.Goals as goal

pub end_of-requires : goal.end_of-requires
end_of-requires g c = c.in_ok-trace.ensures

pub returns : goal.returns
returns g c = named_in_run (meaning_of c.in_ok-trace.trace) c.in_ok-end.end c.in_ok-trace.ensures c.in_ok-end.ensures
