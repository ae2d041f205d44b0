use Rattle.k_history.proofs.Refusals.{one_line, good_is_not_refused}
use Rattle.k_reports.proofs.Proper.{proper}
use Rattle.k_history.proofs.Verdicts.{verdict}
use Rattle.k_history.proofs.laws.reports_are_good_or_refused_at_one_line.Goals as goal

pub returns : goal.returns
returns c = record { either = λ t report is. verdict t report (proper t is); one = one_line; apart = good_is_not_refused }
