-- What is written of a run of a trace.
use Rattle.std.proofs.Common.{◌≡◌, ◌∙◌, ap, subst, sym}
use Rattle.k_types.specs.Steps.{state_after}
use Rattle.k_types.specs.Trace.{Trace}
use Rattle.k_trace.specs.Named.{DeclaredNames, NamedTrace}
use Rattle.k_trace.specs.Rules.{IsTrace}
use Rattle.k_text.specs.Named.{AreNamed}
use Rattle.k_text.specs.Report.{text_over, report_text}
use Rattle.k_opening.specs.k_outcome.Ends.{EndValue, journal_of, last_state}
use Rattle.k_opening.proofs.Setups.{report_over_setup}
use Rattle.k_run.specs.Runs.{IsRunOf}
use Rattle.k_status.specs.Reports.{IsReportOf}
use Rattle.k_status.proofs.ReadBack.{report_is}

-- What is written of a run that is over is the report of its journal.
pub report_of_run : (t : NamedTrace) (end : EndValue) → IsRunOf t end → text_over end.names end.setup (journal_of end) (last_state end) ≡ report_text t.names t.trace (journal_of end)
report_of_run t end run =
    ap (λ (names : DeclaredNames). text_over names end.setup (journal_of end) (last_state end)) run.names
    ∙ ap (λ (setup : Trace). text_over t.names setup (journal_of end) (state_after setup (journal_of end))) run.setup
    ∙ report_over_setup t.names t.trace (journal_of end)

-- What a trace declares has its names in a run of it.
pub named_in_run : (t : NamedTrace) (end : EndValue) → IsTrace t → IsRunOf t end → AreNamed end.names end.setup
named_in_run t end is run = rw run.names (rw run.setup (record { types = is.types_named; limits = is.limits_named; procs = is.procs_named; shared = is.shared_named }))

-- What is written of a run that is over is a report of its journal.
pub report_by_run : (t : NamedTrace) (end : EndValue) → IsTrace t → IsRunOf t end → IsReportOf t (journal_of end) (text_over end.names end.setup (journal_of end) (last_state end))
report_by_run t end is run = subst (IsReportOf t (journal_of end)) (sym (report_of_run t end run)) (report_is t (journal_of end) is run.legal run.complete)
