-- What a journal has done is a trace, and the report of the journal is accepted for it.
use Rattle.std.proofs.Common.{◌≡◌, ◌∙◌, ◌≤◌, sym, ap, length, map, arith}
use Rattle.k_types.specs.State.{State}
use Rattle.k_types.specs.Steps.{done_by, state_after}
use Rattle.k_types.specs.Numbers.{numbers_below}
use Rattle.k_types.specs.Trace.{process_count}
use Rattle.k_laws.proofs.BoundsLaws.{histories_are_short}
use Rattle.k_trace.specs.Rules.{IsTrace}
use Rattle.k_text.specs.Named.{AreNamed}
use Rattle.k_text.specs.Report.{report_text, text_over}
use Rattle.k_text.proofs.Setups.{setup_alone}
use Rattle.k_history.specs.Good.{IsGoodReport}
use Rattle.k_history.proofs.Refusals.{good_is_not_refused}
use Rattle.k_history.specs.Verdicts.{IsAccepted}
use Rattle.k_reports.proofs.Spelled.{all_spelled}
use Rattle.k_solo.proofs.Lines.{setup_rules}
use Rattle.k_state.specs.Setups.{AreSetupRules, setup_of}
use Rattle.k_print.specs.Done.{order_of, trace_done}
use Rattle.k_print.specs.Printed.{CanBeTraced, GoesOn, IsJournal, Journal, named_done, report_of}
use Rattle.k_print.proofs.Legal.{counted_all}
use Rattle.k_print.proofs.Traced.{complete_done, legal_done, rules_done, state_same}

module _ (j : Journal) (is : IsJournal j) where
  -- the machine can be opened for what is declared
  pub rules_here : AreSetupRules (setup_of j.trace)
  rules_here = setup_rules (record j.trace { operations = is.operations; order = is.order }) is.is_trace.rules

  pub named_here : AreNamed j.names j.trace
  named_here = record { types = is.is_trace.types_named; limits = is.is_trace.limits_named; procs = is.is_trace.procs_named; shared = is.is_trace.shared_named }

  module _ (can : CanBeTraced j) where
    -- the journal is short
    pub short : length j.history ≤ 400066
    short =
        let low = histories_are_short j.trace j.history (record {
          tree = is.is_trace.rules.limits.tree;
          root = is.is_trace.rules.limits.root;
          rooted = is.is_trace.rules.limits.rooted;
          limited = is.is_trace.rules.limits.limited;
          fits = is.is_trace.rules.limits.fits;
          small = is.is_trace.rules.limits.small;
        }) is.legal in
        let all = counted_all j.history in
        omega (arith, low, all, can.few, is.is_trace.rules.shared)

    pub traced : IsTrace (named_done j)
    traced = record {
      rules = rules_done j.trace j.history is.legal is.operations is.order is.is_trace.rules can.spelled can.few is.second;
      type_names = is.is_trace.type_names;
      limit_names = is.is_trace.limit_names;
      heap_names = is.is_trace.heap_names;
      types_named = is.is_trace.types_named;
      limits_named = is.is_trace.limits_named;
      procs_named = is.is_trace.procs_named;
      shared_named = is.is_trace.shared_named;
      has_root = is.is_trace.has_root;
    }

    -- the report of the journal reads no operation of the trace
    same_report : report_of j ≡ report_text j.names (trace_done j.trace j.history) j.history
    same_report =
        sym (setup_alone j.names j.trace (map (λ p. done_by p j.history) (numbers_below (process_count j.trace))) (order_of j.history) j.history (state_after j.trace j.history))
        ∙ ap (λ (st : State). text_over j.names (trace_done j.trace j.history) j.history st) (sym (state_same j.trace j.history))

    good : GoesOn j → IsGoodReport (named_done j) (report_of j)
    good on = record {
      history = j.history;
      legal = legal_done j.trace j.history is.legal;
      complete = complete_done j.trace j.history on.quiet on.some_lives;
      text = same_report;
    }

    pub accepted : GoesOn j → IsAccepted (named_done j) (report_of j)
    accepted on = record {
      good = good on;
      not_refused = λ n. good_is_not_refused (named_done j) (report_of j) n traced (all_spelled (named_done j) traced) (good on);
    }
