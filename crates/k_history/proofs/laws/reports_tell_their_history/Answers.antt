use Rattle.k_types.specs.Steps.{state_after}
use Rattle.k_reports.proofs.ReportLines.{history_of_text}
use Rattle.k_reports.proofs.Proper.{proper}
use Rattle.k_history.proofs.laws.reports_tell_their_history.Goals as goal

pub returns : goal.returns
returns c = record {
  spelled = λ names trace history is spelled. history_of_text names trace history (state_after trace history) is spelled;
  begun = λ t history is spelled begun. history_of_text t.names t.trace history (state_after t.trace history) (proper t is) (spelled history begun);
}
