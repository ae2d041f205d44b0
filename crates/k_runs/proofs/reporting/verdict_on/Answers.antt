use Rattle.k_runs.proofs.reporting.verdict_on.Goals as goal

pub verdict_of-requires : goal.verdict_of-requires
verdict_of-requires c = c.in_ok-trace.ensures
