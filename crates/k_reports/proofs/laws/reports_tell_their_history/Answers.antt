use Rattle.std.proofs.Common.{◌≡◌, ◌∙◌, ℕ, List, Result, Ok, ap}
use Rattle.k_types.specs.declared.event.Event.{Event}
use Rattle.k_types.specs.Steps.{state_after}
use Rattle.k_words.specs.Words.{Text}
use Rattle.k_trace.specs.Named.{NamedTrace}
use Rattle.k_trace.specs.Rules.{IsTrace}
use Rattle.k_text.specs.Report.{report_text}
use Rattle.k_reports.specs.Begun.{IsBegun}
use Rattle.k_reports.specs.Histories.{history_of}
use Rattle.k_reports.proofs.Proper.{proper}
use Rattle.k_reports.proofs.ReportLines.{history_of_text}
use Rattle.k_reports.proofs.Spelled.{all_spelled}
use Rattle.k_reports.proofs.laws.reports_tell_their_history.Goals as goal

told : (t : NamedTrace) (history : List Event) → IsTrace t → IsBegun t.trace history → history_of t.names (report_text t.names t.trace history) ≡ Ok history
told t history is begun = history_of_text t.names t.trace history (state_after t.trace history) (proper t is) (all_spelled t is history begun)

one_history : (read : Result (List Event) ℕ) (history other : List Event) → read ≡ Ok history → read ≡ Ok other → history ≡ other
one_history read history other e f = cc

pub returns : goal.returns
returns c = record {
  begun = told;
  complete = λ t history is legal complete. told t history is (record { legal = legal; in_order = complete.in_order });
  alone = λ t history other is begun also same. one_history (history_of t.names (report_text t.names t.trace history)) history other (told t history is begun) (ap (λ (text : Text). history_of t.names text) same ∙ told t other is also);
}
