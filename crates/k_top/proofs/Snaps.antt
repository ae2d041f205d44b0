-- What is told of the snapshot of what a trace leaves.
use Rattle.std.proofs.Common.{◌≡◌, ◌∙◌, List, [], ap, subst, sym}
use Rattle.k_types.specs.declared.event.Event.{Event}
use Rattle.k_types.specs.Bounds.{most_trace_bytes}
use Rattle.k_types.specs.Complete.{IsComplete}
use Rattle.k_types.specs.Steps.{IsLegalHistory, state_after}
use Rattle.k_types.specs.Trace.{Trace}
use Rattle.k_words.specs.Words.{Text}
use Rattle.k_trace.specs.Named.{DeclaredNames, NamedTrace}
use Rattle.k_answers.specs.Setups.{setup_of}
use Rattle.k_run.specs.k_outcome.Ends.{EndValue, journal_of, last_state}
use Rattle.k_run.proofs.Setups.{same_state}
use Rattle.k_run.specs.Runs.{IsRunOf}
use Rattle.k_types.specs.FileOrder.{file_order}
use Rattle.k_trace.specs.Rules.{IsTrace}
use Rattle.k_answers.specs.k_audit.Snapshots.{snapshot_text}
use Rattle.k_answers.specs.k_audit.Verdicts.{IsVerdict}
use Rattle.k_answers.specs.k_audit.declared.verdicts.Verdict.TheVariants.{Sound}
use Rattle.k_answers.proofs.SnapshotSetups.{setup_alone}
use Rattle.k_status.specs.declared.status.Status.TheVariants.{Good}
use Rattle.k_status.specs.Ends.{Input}
use Rattle.k_status.specs.Telling.{TellsOfBytes, TellsOfSource}
use Rattle.k_answers.specs.Reports.{IsFileSnapshot}
use Rattle.k_run.specs.Commands.{HasReplayed}
use Rattle.k_answers.proofs.Ranges.{snapshot_found}

-- The snapshot of what the end of a run shows.
abbrev pub snapshot_of : EndValue → Text
snapshot_of end = snapshot_text end.names end.setup (last_state end)

-- What is shown over the setup has the snapshot of the trace.
snapshot_over_setup : (names : DeclaredNames) (trace : Trace) (history : List Event)
    → snapshot_text names (setup_of trace) (state_after (setup_of trace) history) ≡ snapshot_text names trace (state_after trace history)
snapshot_over_setup names trace history =
    setup_alone names trace [] [] (state_after (setup_of trace) history) ∙ ap (snapshot_text names trace) (sym (same_state trace history))

-- What is written of a run that is over is the snapshot of the state after its journal.
snapshot_of_run : (t : NamedTrace) (end : EndValue) → IsRunOf t end → snapshot_of end ≡ snapshot_text t.names t.trace (state_after t.trace (journal_of end))
snapshot_of_run t end run =
    ap (λ (names : DeclaredNames). snapshot_text names end.setup (last_state end)) run.names
    ∙ ap (λ (setup : Trace). snapshot_text t.names setup (state_after setup (journal_of end))) run.setup
    ∙ snapshot_over_setup t.names t.trace (journal_of end)

-- What such a text is of a trace.
is_snapshot : (t : NamedTrace) (text : Text) → IsTrace t → IsLegalHistory t.trace (file_order t.trace) → IsComplete t.trace (file_order t.trace)
    → text ≡ snapshot_text t.names t.trace (state_after t.trace (file_order t.trace)) → IsFileSnapshot t text
is_snapshot t text is legal complete says = record {
  legal = legal;
  complete = complete;
  says = says;
  sound = subst (λ (s : Text). IsVerdict t.names (setup_of t.trace) s Sound) (sym says) (snapshot_found t (file_order t.trace) is legal complete);
}

-- What is told of a run in the order of the file is the snapshot of the state after that order.
pub snap_told : (input : Input) (end : EndValue) → HasReplayed input end → TellsOfSource most_trace_bytes (TellsOfBytes IsFileSnapshot) input Good (snapshot_of end)
snap_told input end h = (
  h.gave.bytes,
  h.gave.read,
  (
    h.trace,
    h.gave.spelled,
    is_snapshot h.trace (snapshot_of end) h.gave.spelled.is_trace
        (subst (IsLegalHistory h.trace.trace) h.in_order h.run.legal)
        (subst (IsComplete h.trace.trace) h.in_order h.run.complete)
        (snapshot_of_run h.trace end h.run ∙ ap (λ (history : List Event). snapshot_text h.trace.names h.trace.trace (state_after h.trace.trace history)) h.in_order),
  ),
)
