use Rattle.k_runs.proofs.reporting.verdict_of.Goals as goal

pub check_report-requires-clause-good : goal.check_report-requires-clause-good
check_report-requires-clause-good c = c.requires
