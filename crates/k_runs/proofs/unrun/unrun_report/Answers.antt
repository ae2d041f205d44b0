use Rattle.k_runs.proofs.unrun.unrun_report.Goals as goal

pub report_of-report-requires : goal.report_of-report-requires
report_of-report-requires g c = c.in_ok-end.ensures
