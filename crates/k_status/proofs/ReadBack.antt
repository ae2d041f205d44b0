-- The report of a history can be read back, and the history frees nothing live.
use Rattle.std.proofs.Common.{List, refl, subst}
use Rattle.k_types.specs.declared.event.Event.{Event}
use Rattle.k_types.specs.Complete.{IsComplete}
use Rattle.k_types.specs.Steps.{IsLegalHistory, state_after}
use Rattle.k_trace.specs.Named.{NamedTrace}
use Rattle.k_trace.specs.Rules.{IsTrace}
use Rattle.k_text.specs.Report.{report_text}
use Rattle.k_reports.proofs.Proper.{proper}
use Rattle.k_reports.proofs.ReportLines.{history_of_text}
use Rattle.k_reports.proofs.Spelled.{all_spelled}
use Rattle.k_laws.proofs.Laws.{collections_free_nothing_live}
use Rattle.k_laws.proofs.OrderLaws.{ended_histories_leave_what_the_directory_reaches}
use Rattle.k_status.specs.Reports.{IsReportOf}

pub report_is : (t : NamedTrace) (history : List Event) → IsTrace t → IsLegalHistory t.trace history → IsComplete t.trace history → IsReportOf t history (report_text t.names t.trace history)
report_is t history is legal complete = record {
  whole = refl;
  read_back = history_of_text t.names t.trace history (state_after t.trace history) (proper t is) (all_spelled t is history (record { legal = legal; in_order = complete.in_order }));
  legal = legal;
  complete = complete;
  safe = λ before rest h objects bytes exits shares parted n live.
      collections_free_nothing_live t.trace before rest h objects bytes exits shares is.rules.limits (subst (IsLegalHistory t.trace) parted legal) n live;
  reclaimed = ended_histories_leave_what_the_directory_reaches t.trace history is.rules.limits legal complete;
}
