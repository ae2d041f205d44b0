use Rattle.k_runs.proofs.reporting.run_report.Goals as goal

pub report_of-report-requires : goal.report_of-report-requires
report_of-report-requires g c = c.in_ok-end.ensures
