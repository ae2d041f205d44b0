-- What the comparison of a report with that of its history tells.
use Rattle.std.proofs.Common.{◌≡◌, ◌∙◌, ℕ, List, [], ◌∷◌, Some, None, codes, sym, ap}
use Rattle.k_types.specs.declared.event.Event.{Event}
use Rattle.k_types.specs.Complete.{IsComplete}
use Rattle.k_types.specs.Steps.{state_after}
use Rattle.k_words.specs.Words.{Text}
use Rattle.k_trace.specs.Named.{NamedTrace}
use Rattle.k_trace.specs.Rules.{IsTrace}
use Rattle.k_text.specs.Report.{text_over, report_text}
use Rattle.k_text.proofs.Setups.{setup_alone}
use Rattle.k_history.specs.Difference.{difference}
use Rattle.k_history.specs.Good.{IsReadUpTo}
use Rattle.k_history.specs.Good.IsRefusedAt.{OfGraph, OfReport}
use Rattle.k_history.proofs.Differences.{same_text}
use Rattle.k_history.specs.Verdicts.{IsAccepted, IsRefused}
use Rattle.k_solo.specs.Runs.{Run}
use Rattle.k_state.specs.Setups.{setup_of}
use Rattle.k_check.specs.Stops.{IsAtGraph}
use Rattle.k_check.proofs.Lifted.{accepted, refused}

-- What is written at the end is the report of the history.
pub written : (t : NamedTrace) (history : List Event) (end : Run) → end ≡ record { machine = record { setup = setup_of t.trace; state = state_after t.trace history }; events = history }
    → text_over t.names end.machine.setup end.events end.machine.state ≡ report_text t.names t.trace history
written t history end is = ap (λ (r : Run). text_over t.names r.machine.setup r.events r.machine.state) is ∙ setup_alone t.names t.trace [] [] history (state_after t.trace history)

-- The report is that of the history.
pub same_report : (t : NamedTrace) (report : Text) (history : List Event) (behind : List Text) → IsTrace t → IsReadUpTo t report history (codes "graph" ∷ behind) → IsComplete t.trace history
    → difference (report_text t.names t.trace history) report ≡ None → IsAccepted t report
same_report t report history behind is read complete none =
    accepted t report is (record { history = history; legal = read.begun.legal; complete = complete; text = sym (same_text 1 (report_text t.names t.trace history) report none) })

-- It differs from it in this line.
pub other_report : (t : NamedTrace) (report : Text) (history : List Event) (behind : List Text) (n : ℕ) → IsTrace t → IsReadUpTo t report history (codes "graph" ∷ behind) → IsComplete t.trace history
    → difference (report_text t.names t.trace history) report ≡ Some n → IsRefused t report n
other_report t report history behind n is read complete differs =
    refused t report n is (OfReport (record { history = history; behind = behind; read = read; complete = complete; differs = differs }))

-- At the line `graph` the history is not complete.
pub incomplete : (t : NamedTrace) (report : Text) (history : List Event) (n : ℕ) → IsTrace t → IsAtGraph t report history n → ¬ IsComplete t.trace history → IsRefused t report n
incomplete t report history n is at not = refused t report n is (OfGraph (record { history = history; behind = at.behind; read = at.read; not_complete = not; number = at.number }))
