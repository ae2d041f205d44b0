-- What is written of a run of the workload.
use Rattle.std.proofs.Common.{◌∙◌, ℕ, ◌<◌, ◌≤◌, length, ap, subst, sym, arith}
use Rattle.k_types.specs.State.{State}
use Rattle.k_types.specs.Steps.{state_after}
use Rattle.k_types.specs.Trace.{Trace}
use Rattle.k_run.specs.k_outcome.Ends.{EndValue, journal_of, last_state}
use Rattle.k_run.proofs.Setups.{same_state}
use Rattle.k_answers.specs.k_big.Summary.{HasSmallCharges, summary_over}
use Rattle.k_answers.specs.k_big.Workload.{big_trace, most_objects}
use Rattle.k_answers.proofs.Charges.{charges_small}
use Rattle.k_answers.proofs.Rules.{big_is_trace}
use Rattle.k_run.specs.Runs.{IsRunOf}
use Rattle.k_answers.specs.Reports.{IsSummaryOf}

-- The end of a run shows limits.
pub has_limits : (n : ℕ) (end : EndValue) → IsRunOf (big_trace n) end → 0 < length end.setup.limits
has_limits n end run = subst (λ (setup : Trace). 0 < length setup.limits) (sym run.setup) (omega arith)

-- The charges at the end of a run are small.
pub has_small_charges : (n : ℕ) (end : EndValue) → n ≤ most_objects → IsRunOf (big_trace n) end → HasSmallCharges end.setup (last_state end)
has_small_charges n end few run =
    let trace = (big_trace n).trace in
    let history = journal_of end in
    subst (λ (setup : Trace). HasSmallCharges setup (state_after setup history)) (sym run.setup)
    (subst (λ (st : State). HasSmallCharges trace st) (same_state trace history) (charges_small trace history (big_is_trace n few).rules run.legal))

-- What is written of a run is the summary of its journal.
pub summary_of_run : (n : ℕ) (end : EndValue) → IsRunOf (big_trace n) end → IsSummaryOf n (summary_over n end.setup (journal_of end) (last_state end))
summary_of_run n end run =
    let trace = (big_trace n).trace in
    record {
      history = journal_of end;
      legal = run.legal;
      complete = run.complete;
      says =
          ap (λ (setup : Trace). summary_over n setup (journal_of end) (state_after setup (journal_of end))) run.setup
          ∙ ap (λ (st : State). summary_over n trace (journal_of end) st) (sym (same_state trace (journal_of end)));
    }
