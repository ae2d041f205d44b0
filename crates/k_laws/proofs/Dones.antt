-- A process has done as many operations as the history has of it, and how long a history is.
use Rattle.std.proofs.Common.{◌≡◌, ℕ, ◌+◌, ◌*◌, ◌≤◌, ◌<◌, ◌==◌, Bool, true, false, cond, refl, ap, sym, ◌∙◌, inl, inr, List, [], ◌∷◌, ◌++◌, length, set, arith, eq-eqb, ne_eqb, get_or, get_or-set_same, get_or-set_other}
use Rattle.std.proofs.lemmas.Bool.{cases_eq}
use Rattle.std.proofs.lemmas.List.{length-append}
use Rattle.k_types.specs.declared.names.Pid.{Pid}
use Rattle.k_types.specs.declared.names.Heap.{Heap}
use Rattle.k_types.specs.declared.op.Op.{Op}
use Rattle.k_types.specs.declared.event.Event.{Event}
use Rattle.k_types.specs.declared.event.Event.TheVariants.{Done, Ended, Absorbed, Closing}
use Rattle.k_types.specs.TraceRules.{AreLimits}
use Rattle.k_types.specs.Trace.{Trace, process_count}
use Rattle.k_types.specs.State.{State, opening}
use Rattle.k_types.specs.Replies.{first_fault, faults}
use Rattle.k_types.specs.Updates.{count_done, open_scan, set_phase, keep_objects, keep_exits, keep_shares, close_scan, close}
use Rattle.k_types.specs.Effects.{step, after_operation, after_ended, after_absorbed, after_closing}
use Rattle.k_types.specs.Steps.{IsPossible, IsLegalHistory, run, state_after, done_by}
use Rattle.k_laws.specs.Counts.{one_if, operation_count, is_operation, ended_count, is_end, absorbed_count, is_absorption, closing_count, is_closing_event, begun_count, has_begun, begins_collection}
use Rattle.k_laws.proofs.Counting.{one_if_low}
use Rattle.k_laws.proofs.AbsorbedCounts.{absorbed_at_most, closings}
use Rattle.k_laws.proofs.ScanCounts.{collections_balance}
use Rattle.k_laws.proofs.Histories.{history_induction, state_next, done_append}
use Rattle.k_types.proofs.Lists.{get_or-set_cases}
use Rattle.k_laws.proofs.Sizes.{history_sized, zeros_at}
use Rattle.k_laws.proofs.Effects.{unless_done}

module _ (trace : Trace) where
  done_is : (st : State) (p : ℕ) (op : Op) → (after_operation trace p op st).done ≡ set st.done p (get_or st.done p 0 + 1)
  unfolding after_operation count_done
  done_is st p op = ap (λ done. set done p (get_or done p 0 + 1)) (unless_done (first_fault (faults trace st p op)) trace p op st)

  -- one operation more of the process that acts
  pub done_at : (st : State) (q p : ℕ) (op : Op) → q < length st.done → get_or (after_operation trace q op st).done p 0 ≡ get_or st.done p 0 + one_if (q == p)
  done_at st q p op inside =
      ap (λ done. get_or done p 0) (done_is st q op)
      ∙ elim (cases_eq q p) [
        | inl e ↦
            let now = get_or-set_same st.done q (get_or st.done q 0 + 1) 0 inside in
            let at = ap (λ k. get_or (set st.done q (get_or st.done q 0 + 1)) k 0) e in
            let was = ap (λ k. get_or st.done k 0) e in
            let one = ap one_if (eq-eqb q p e) in
            omega arith
        | inr ne ↦
            let same = get_or-set_other st.done q p (get_or st.done q 0 + 1) 0 (λ e. ne (sym e)) in
            let none = ap one_if (ne_eqb q p ne) in
            omega arith
      ]

  ended_done : (st : State) (h : Heap) → (after_ended trace h st).done ≡ st.done
  unfolding after_ended close_scan keep_shares keep_exits keep_objects
  ended_done st h = refl

  absorbed_done : (st : State) (s : ℕ) → (after_absorbed trace s st).done ≡ st.done
  unfolding after_absorbed set_phase keep_exits
  absorbed_done st s = refl

  closing_done : (st : State) → (after_closing trace st).done ≡ st.done
  unfolding after_closing close open_scan
  closing_done st = refl

  operation_at_most : (st : State) (q p : ℕ) (op : Op) → get_or (after_operation trace q op st).done p 0 ≤ get_or st.done p 0 + 1
  operation_at_most st q p op =
      let after = ap (λ done. get_or done p 0) (done_is st q op) in
      elim (get_or-set_cases st.done q p (get_or st.done q 0 + 1) 0) [
        | inl same ↦ omega (arith, after, same)
        | inr here ↦ (let was = ap (λ k. get_or st.done k 0) here.0 in omega (arith, after, here.1, was))
      ]

  step_at_most : (st : State) (event : Event) (p : ℕ) → get_or (step trace st event).done p 0 ≤ get_or st.done p 0 + one_if (is_operation event)
  unfolding step
  step_at_most st (Done pid op said) p = operation_at_most st pid.0 p op
  step_at_most st (Ended h a b c d) p = (let same = ap (λ done. get_or done p 0) (ended_done st h) in omega (arith, same))
  step_at_most st (Absorbed s) p = (let same = ap (λ done. get_or done p 0) (absorbed_done st s.0) in omega (arith, same))
  step_at_most st Closing p = (let same = ap (λ done. get_or done p 0) (closing_done st) in omega (arith, same))

  run_at_most : (st : State) (events : List Event) (p : ℕ) → get_or (run trace st events).done p 0 ≤ get_or st.done p 0 + operation_count events
  run_at_most st [] p = omega arith
  run_at_most st (event ∷ events) p = omega (arith, run_at_most (step trace st event) events p, step_at_most st event p)

  -- of every list of events, legal or not
  pub dones_at_most : (events : List Event) (p : ℕ) → get_or (state_after trace events).done p 0 ≤ operation_count events
  dones_at_most events p = (let none = zeros_at (process_count trace) p in omega (arith, run_at_most (opening trace) events p, none))

  module _ (p : ℕ) where
    Counted : List Event → Type 0
    Counted history = get_or (state_after trace history).done p 0 ≡ length (done_by p history)

    one_done : (pid : Pid) (op : Op) (b : Bool) → length (cond b (op ∷ []) []) ≡ one_if b
    one_done pid op true = refl
    one_done pid op false = refl

    next : (history : List Event) (event : Event) → IsLegalHistory trace history → IsPossible trace (state_after trace history) event → Counted history → Counted (history ++ event ∷ [])
    unfolding Counted step
    next history event legal may before = rw (state_next trace history event, done_append p history (event ∷ []), length-append (done_by p history) (done_by p (event ∷ []))) (go event may)
      where
        go : (event : Event) → IsPossible trace (state_after trace history) event → get_or (step trace (state_after trace history) event).done p 0 ≡ length (done_by p history) + length (done_by p (event ∷ []))
        go (Done pid op said) may =
            let inside : pid.0 < length (state_after trace history).done = rw (history_sized trace history).done may.known in
            omega (arith, before, done_at (state_after trace history) pid.0 p op inside, one_done pid op (pid.0 == p))
        go (Ended h a b c d) may = let same = ap (λ done. get_or done p 0) (ended_done (state_after trace history) h) in omega (arith, before, same)
        go (Absorbed s) may = let same = ap (λ done. get_or done p 0) (absorbed_done (state_after trace history) s.0) in omega (arith, before, same)
        go Closing may = let same = ap (λ done. get_or done p 0) (closing_done (state_after trace history)) in omega (arith, before, same)

    pub done_count : (history : List Event) → IsLegalHistory trace history → get_or (state_after trace history).done p 0 ≡ length (done_by p history)
    unfolding Counted
    done_count history legal = history_induction trace Counted (zeros_at (process_count trace) p) next history legal

-- each event is of one kind
kinds : (event : Event) → one_if (is_operation event) + one_if (is_end event) + one_if (is_absorption event) + one_if (is_closing_event event) ≡ 1
kinds (Done pid op said) = refl
kinds (Ended h a b c d) = refl
kinds (Absorbed s) = refl
kinds Closing = refl

by_kinds : (history : List Event) → operation_count history + ended_count history + absorbed_count history + closing_count history ≡ length history
by_kinds [] = refl
by_kinds (event ∷ history) = omega (arith, kinds event, by_kinds history)

begun_low : (event : Event) → one_if (has_begun event) ≤ one_if (is_operation event) + one_if (is_closing_event event)
begun_low (Done pid op said) = omega (arith, one_if_low (begins_collection op))
begun_low (Ended h a b c d) = omega arith
begun_low (Absorbed s) = omega arith
begun_low Closing = omega arith

begun_at_most : (history : List Event) → begun_count history ≤ operation_count history + closing_count history
begun_at_most [] = omega arith
begun_at_most (event ∷ history) = omega (arith, begun_low event, begun_at_most history)

-- a history has at most two events an operation, one a shared heap, and two more
pub length_at_most : (trace : Trace) → AreLimits trace → (history : List Event) → IsLegalHistory trace history → length history ≤ 2 * operation_count history + trace.shared_heaps + 2
length_at_most trace limits history legal =
    omega (arith, by_kinds history, begun_at_most history, collections_balance trace limits history legal, absorbed_at_most trace history legal, closings trace history legal, one_if_low (state_after trace history).closed)
