-- The trace of what a legal history has done keeps the rules, and the history is legal and complete for it.
use Rattle.std.proofs.Common.{◌≡◌, ◌∙◌, ℕ, ◌<◌, ◌≤◌, List, [], append-nil, length, sym, ap, subst, IsTrue, IsFalse, arith}
use Rattle.std.proofs.lemmas.Bool.{false≢true}
use Rattle.std.proofs.lemmas.List.{length-map}
use Rattle.std.specs.List.{list_all}
use Rattle.k_types.specs.declared.event.Event.{Event}
use Rattle.k_types.specs.declared.op.Op.{Op}
use Rattle.k_types.specs.Bounds.{most_operations}
use Rattle.k_types.specs.Complete.{IsComplete, all_ended}
use Rattle.k_types.specs.Numbers.{numbers_below}
use Rattle.k_types.specs.State.{State, opening}
use Rattle.k_types.specs.Steps.{IsLegalHistory, done_by, in_range, state_after}
use Rattle.k_types.specs.Trace.{Trace, operations_of, process_count}
use Rattle.k_types.specs.TraceRules.{AreOperations, EndsWithExit, KeepsRules, is_of_version, is_spelled}
use Rattle.k_types.proofs.Lists.{at_number, numbers_length}
use Rattle.k_solo.proofs.Unread.{legal_unread, run_unread}
use Rattle.k_spell.specs.Spelled.{is_spelled_event}
use Rattle.k_print.specs.Done.{order_of, trace_done}
use Rattle.k_print.proofs.Legal.{all_second, counted_each, ends_each, legal_read, order_known, ranged_each, spelled_each}

module _ (trace : Trace) (history : List Event) where
  -- the operations of a process are those that it has done
  pub ops_at : (p : ℕ) → p < process_count trace → operations_of (trace_done trace history) p ≡ done_by p history
  ops_at p known = at_number (λ q. done_by q history) 0 (process_count trace) p [] known ∙ ap (λ q. done_by q history) (omega arith)

  -- the state after the history is the same
  pub state_same : state_after (trace_done trace history) history ≡ state_after trace history
  state_same = run_unread (trace_done trace history) (opening (trace_done trace history)) history ∙ sym (run_unread trace (opening trace) history)

  module _ (legal : IsLegalHistory trace history) where
    pub legal_done : IsLegalHistory (trace_done trace history) history
    legal_done = legal_read (trace_done trace history) (opening (trace_done trace history)) history (legal_unread trace (opening trace) history legal)

    operations_done : IsTrue (list_all is_spelled_event history) → length (order_of history) ≤ most_operations → trace.version ≡ 2 → AreOperations (trace_done trace history)
    operations_done spelled few second = record {
      each = length-map (numbers_below (process_count trace)) (λ p. done_by p history) ∙ numbers_length 0 (process_count trace);
      in_range = λ p known. subst (λ (ops : List Op). IsTrue (list_all (in_range (trace_done trace history)) ops)) (sym (ops_at p known)) (ranged_each (trace_done trace history) (opening (trace_done trace history)) p history legal_done);
      spelled = λ p known. subst (λ (ops : List Op). IsTrue (list_all is_spelled ops)) (sym (ops_at p known)) (spelled_each p history spelled);
      of_version = λ p known. subst (λ v. IsTrue (list_all (is_of_version v) (operations_of (trace_done trace history) p))) (sym second) (all_second (operations_of (trace_done trace history) p));
      ends = λ p known. subst EndsWithExit (sym (ops_at p known)) (ends_each trace (opening trace) p history legal);
      ordered = order_known trace (opening trace) history legal;
      counted = λ p known. counted_each p history ∙ ap (λ (ops : List Op). length ops) (sym (ops_at p known));
      room = few;
    }

    pub rules_done : (operations : List (List Op)) (order : List ℕ) → KeepsRules (record trace { operations = operations; order = order }) → IsTrue (list_all is_spelled_event history) → length (order_of history) ≤ most_operations → trace.version ≡ 2 →
        KeepsRules (trace_done trace history)
    rules_done operations order rules spelled few second = record {
      version = rules.version;
      ceiling = rules.ceiling;
      directory = rules.directory;
      directory_fits = rules.directory_fits;
      types = rules.types;
      fields = rules.fields;
      limit_count = rules.limit_count;
      processes = rules.processes;
      some_process = rules.some_process;
      shared = rules.shared;
      limits = record {
        tree = rules.limits.tree;
        root = rules.limits.root;
        rooted = rules.limits.rooted;
        limited = rules.limits.limited;
        fits = rules.limits.fits;
        small = rules.limits.small;
      };
      operations = operations_done spelled few second;
    }

  -- where no collection is open and some process lives it is complete
  pub complete_done : (state_after trace history).scans ≡ [] → IsFalse (all_ended trace (state_after trace history)) → IsComplete (trace_done trace history) history
  complete_done quiet lives = record {
    in_order = λ p known. ([], append-nil (done_by p history) ∙ sym (ops_at p known));
    all = λ p known stays. sym (ops_at p known);
    no_scan = ap (λ (st : State). st.scans) state_same ∙ quiet;
    no_orphan = λ ended. absurd (false≢true (sym lives ∙ ap (λ (st : State). all_ended trace st) (sym state_same) ∙ ended));
    ends = λ ended. absurd (false≢true (sym lives ∙ ap (λ (st : State). all_ended trace st) (sym state_same) ∙ ended));
  }
