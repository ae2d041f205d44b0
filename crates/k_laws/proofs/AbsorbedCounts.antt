-- A history absorbs each shared heap at most once, and closes at most once.
use Rattle.std.proofs.Common.{◌≡◌, ℕ, zero, suc, ◌+◌, ◌≤◌, ◌<◌, not, true, false, refl, ap, sym, inl, inr, List, [], ◌∷◌, ◌++◌, length, replicate, set, Option, Some, None, arith, IsTrue}
use Rattle.std.proofs.lemmas.Bool.{false≢true, cases_lt, not-false, and_parts}
use Rattle.k_types.specs.declared.names.Name.{Name}
use Rattle.k_types.specs.declared.names.Heap.{Heap}
use Rattle.k_types.specs.declared.names.Heap.TheVariants.{Shared}
use Rattle.k_types.specs.declared.names.Phase.{Phase}
use Rattle.k_types.specs.declared.names.Phase.TheVariants.{Unmade, Populating, Frozen, Absorbed}
use Rattle.k_types.specs.declared.op.Op.{Op}
use Rattle.k_types.specs.declared.op.Op.TheVariants.{Store, Put, Share, Freeze, Kill}
use Rattle.k_types.specs.declared.event.Fault.{Fault}
use Rattle.k_types.specs.declared.event.Fault.TheVariants.{Segv, NotPopulating, Taken}
use Rattle.k_types.specs.declared.event.Event.{Event}
use Rattle.k_types.specs.declared.event.Event.TheVariants.{Done, Ended, Absorbed as AbsorbedEvent, Closing}
use Rattle.k_types.specs.Names.{heap_eq}
use Rattle.k_types.specs.Totals.{total}
use Rattle.k_types.specs.Trace.{Trace}
use Rattle.k_types.specs.State.{State, register}
use Rattle.k_types.specs.Owners.{owner_of, phase_of, is_absorbed}
use Rattle.k_types.specs.Replies.{first_fault, faults, fault_where, at_base, is_unmade, is_populating}
use Rattle.k_types.specs.Updates.{count_done, set_register, create, open_scan, set_phase, add_share, keep_objects, keep_exits, keep_shares, close_scan, clear_registers, end_process, turn_exits, close, set_max}
use Rattle.k_types.specs.Effects.{step, effect, effect_unless, after_operation, after_store, after_put, after_freeze, after_end_of, after_ended, after_absorbed, after_closing}
use Rattle.k_types.specs.Steps.{IsPossible, IsLegalHistory, state_after, is_live, has_sharer}
use Rattle.k_laws.specs.Counts.{one_if, is_absorption, absorbed_count, is_closing_event, closing_count}
use Rattle.k_laws.proofs.Counting.{count_low}
use Rattle.k_laws.proofs.Phases.{store_phases, put_phases, ended_phases, closing_phases}
use Rattle.k_laws.proofs.FrameSteps.{none_on}
use Rattle.k_laws.proofs.Histories.{history_induction, state_next}
use Rattle.k_laws.proofs.Sizes.{history_sized}
use Rattle.k_laws.proofs.SoundEffects.{is_unmade_so, is_populating_by}
use Rattle.k_laws.proofs.Rest.{store_rest, put_rest, freeze_rest, kill_rest}
use Rattle.k_types.proofs.Sums.{total_push, total_set}

abbrev gone : Phase → ℕ
gone phase = one_if (is_absorbed phase)

-- a phase is set inside the list, or nothing is set
set_outside : {A : Type 0} (xs : List A) (i : ℕ) (y : A) → length xs ≤ i → set xs i y ≡ xs
set_outside [] i y out = refl
set_outside (x ∷ xs) zero y out = absurd (omega (arith, out))
set_outside (x ∷ xs) (suc i) y out = ap (λ rest. x ∷ rest) (set_outside xs i y (omega (arith, out)))

gone_same : (phases : List Phase) (s : ℕ) (phase : Phase) → is_absorbed phase ≡ false → is_absorbed (phase_of phases s) ≡ false → total gone (set phases s phase) ≡ total gone phases
gone_same phases s phase stands stood =
    elim (cases_lt s (length phases)) [
      | inl inside ↦ let all = total_set gone phases s phase Unmade inside in let a = ap one_if stands in let b = ap one_if stood in omega arith
      | inr outside ↦ ap (total gone) (set_outside phases s phase outside)
    ]

module _ (trace : Trace) (st : State) where
  freeze_gone : (p s : ℕ) (root : Option Name) → is_absorbed (phase_of st.phases s) ≡ false → total gone (after_freeze s root st).phases ≡ total gone st.phases
  unfolding after_freeze set_phase
  freeze_gone p s None stood = refl
  freeze_gone p s (Some root) stood = gone_same st.phases s (Frozen root) refl stood

  froze : (p s : ℕ) (b : Option Name) →
      first_fault (at_base b (λ x. fault_where (not (heap_eq (owner_of trace st x.seg.0) (Shared (record { 0 = s })))) Segv ∷ fault_where (not (is_populating (phase_of st.phases s) p)) (NotPopulating (record { 0 = s })) ∷ [])) ≡ None →
      total gone (after_freeze s b st).phases ≡ total gone st.phases
  unfolding first_fault
  froze p s None e = absurd (cc e)
  froze p s (Some x) e =
      let inside = none_on (not (heap_eq (owner_of trace st x.seg.0) (Shared (record { 0 = s })))) Segv _ e in
      let phase = is_populating_by (phase_of st.phases s) p (not-false _ (none_on (not (is_populating (phase_of st.phases s) p)) (NotPopulating (record { 0 = s })) [] inside.1).0) in
      freeze_gone p s (Some x) (ap is_absorbed phase.1)

  effect_gone : (p : ℕ) (op : Op) → first_fault (faults trace st p op) ≡ None → total gone (effect trace p op st).phases ≡ total gone st.phases
  unfolding effect set_register create open_scan add_share set_phase after_end_of end_process clear_registers keep_shares turn_exits faults set_max
  effect_gone p (Store base i value) fine = ap (total gone) (store_phases trace st (register st.registers p base.0) i (register st.registers p value.0))
  effect_gone p (Put base i number) fine = ap (total gone) (put_phases trace st (register st.registers p base.0) i number)
  effect_gone p (Share s) fine =
      gone_same st.phases s.0 (Populating (record { 0 = p })) refl (ap is_absorbed (is_unmade_so (phase_of st.phases s.0) (not-false _ (none_on (not (is_unmade (phase_of st.phases s.0))) (Taken s) [] fine).0)))
  effect_gone p (Freeze s root) fine = froze p s.0 (register st.registers p root.0) fine
  effect_gone p (Kill q) fine = ap (λ (s : State). total gone s.phases) (kill_rest trace st q.0)
  effect_gone p _ fine = refl

  pub done_gone : (p : ℕ) (op : Op) → total gone (after_operation trace p op st).phases ≡ total gone st.phases
  unfolding after_operation count_done
  done_gone p op = go (first_fault (faults trace st p op)) refl
    where
      go : (f : Option Fault) → first_fault (faults trace st p op) ≡ f → total gone (effect_unless f trace p op st).phases ≡ total gone st.phases
      go None e = effect_gone p op e
      go (Some f) e = refl

  live_stands : (phase : Phase) → IsTrue (is_live phase) → is_absorbed phase ≡ false
  live_stands Unmade t = absurd (false≢true t)
  live_stands (Populating q) t = refl
  live_stands (Frozen root) t = refl
  live_stands Absorbed t = absurd (false≢true t)

  absorbed_gone : (s : ℕ) → s < length st.phases → IsTrue (is_live (phase_of st.phases s)) → total gone (after_absorbed trace s st).phases ≡ total gone st.phases + 1
  unfolding after_absorbed set_phase keep_exits
  absorbed_gone s inside live =
      let all = total_set gone st.phases s Absorbed Unmade inside in
      let was = ap one_if (live_stands (phase_of st.phases s) live) in
      omega arith

module _ (trace : Trace) where
  Counted : List Event → Type 0
  Counted history = absorbed_count history ≡ total gone (state_after trace history).phases

  next : (history : List Event) (event : Event) → IsLegalHistory trace history → IsPossible trace (state_after trace history) event → Counted history → Counted (history ++ event ∷ [])
  unfolding Counted step
  next history event legal may before = rw (state_next trace history event, total_push (λ e. one_if (is_absorption e)) history event) (go event may)
    where
      go : (event : Event) → IsPossible trace (state_after trace history) event → absorbed_count history + one_if (is_absorption event) ≡ total gone (step trace (state_after trace history) event).phases
      go (Done pid op said) may = omega (arith, before, done_gone trace (state_after trace history) pid.0 op)
      go (Ended h a b c d) may = let same = ap (total gone) (ended_phases trace (state_after trace history) h) in omega (arith, before, same)
      go (AbsorbedEvent s) may =
          let inside : s.0 < length (state_after trace history).phases = rw (history_sized trace history).phases may.known in
          let more = absorbed_gone trace (state_after trace history) s.0 inside (and_parts (is_live (phase_of (state_after trace history).phases s.0)) (not (has_sharer (state_after trace history).shares s.0)) may.orphan).0 in
          omega (arith, before, more)
      go Closing may = let same = ap (total gone) (closing_phases trace (state_after trace history)) in omega (arith, before, same)

  none_gone : (n : ℕ) → total gone (replicate n Unmade) ≡ 0
  none_gone zero = refl
  none_gone (suc n) = omega (arith, none_gone n)

  pub absorbed_at_most : (history : List Event) → IsLegalHistory trace history → absorbed_count history ≤ trace.shared_heaps
  unfolding Counted
  absorbed_at_most history legal =
      let count = history_induction trace Counted (sym (none_gone trace.shared_heaps)) next history legal in
      omega (arith, count, count_low is_absorbed (state_after trace history).phases, (history_sized trace history).phases)

  store_closed : (st : State) (x : Option Name) (i : ℕ) (v : Option Name) → (after_store trace x i v st).closed ≡ st.closed
  store_closed st x i v = ap (λ (s : State). s.closed) (store_rest trace st x i v)

  put_closed : (st : State) (x : Option Name) (i n : ℕ) → (after_put x i n st).closed ≡ st.closed
  put_closed st x i n = ap (λ (s : State). s.closed) (put_rest st x i n)

  freeze_closed : (st : State) (s : ℕ) (root : Option Name) → (after_freeze s root st).closed ≡ st.closed
  freeze_closed st s root = ap (λ (s : State). s.closed) (freeze_rest st s root)

  effect_closed : (st : State) (p : ℕ) (op : Op) → (effect trace p op st).closed ≡ st.closed
  unfolding effect set_register create open_scan add_share set_phase after_end_of end_process clear_registers keep_shares turn_exits set_max
  effect_closed st p (Store base i value) = store_closed st (register st.registers p base.0) i (register st.registers p value.0)
  effect_closed st p (Put base i number) = put_closed st (register st.registers p base.0) i number
  effect_closed st p (Freeze s root) = freeze_closed st s.0 (register st.registers p root.0)
  effect_closed st p (Kill q) = ap (λ (s : State). s.closed) (kill_rest trace st q.0)
  effect_closed st p _ = refl

  unless_closed : (f : Option Fault) (st : State) (p : ℕ) (op : Op) → (effect_unless f trace p op st).closed ≡ st.closed
  unless_closed None st p op = effect_closed st p op
  unless_closed (Some f) st p op = refl

  pub done_closed : (st : State) (p : ℕ) (op : Op) → (after_operation trace p op st).closed ≡ st.closed
  unfolding after_operation count_done
  done_closed st p op = unless_closed (first_fault (faults trace st p op)) st p op

  ended_closed : (st : State) (h : Heap) → (after_ended trace h st).closed ≡ st.closed
  unfolding after_ended close_scan keep_shares keep_exits keep_objects
  ended_closed st h = refl

  absorbed_closed : (st : State) (s : ℕ) → (after_absorbed trace s st).closed ≡ st.closed
  unfolding after_absorbed set_phase keep_exits
  absorbed_closed st s = refl

  closing_closed : (st : State) → (after_closing trace st).closed ≡ true
  unfolding after_closing close open_scan
  closing_closed st = refl

  Closed : List Event → Type 0
  Closed history = closing_count history ≡ one_if (state_after trace history).closed

  closed_next : (history : List Event) (event : Event) → IsLegalHistory trace history → IsPossible trace (state_after trace history) event → Closed history → Closed (history ++ event ∷ [])
  unfolding Closed step
  closed_next history event legal may before = rw (state_next trace history event, total_push (λ e. one_if (is_closing_event e)) history event) (go event may)
    where
      go : (event : Event) → IsPossible trace (state_after trace history) event → closing_count history + one_if (is_closing_event event) ≡ one_if (step trace (state_after trace history) event).closed
      go (Done pid op said) may = let same = ap one_if (done_closed (state_after trace history) pid.0 op) in omega (arith, before, same)
      go (Ended h a b c d) may = let same = ap one_if (ended_closed (state_after trace history) h) in omega (arith, before, same)
      go (AbsorbedEvent s) may = let same = ap one_if (absorbed_closed (state_after trace history) s.0) in omega (arith, before, same)
      go Closing may = let now = ap one_if (closing_closed (state_after trace history)) in let was = ap one_if may.first in omega (arith, before, now, was)

  pub closings : (history : List Event) → IsLegalHistory trace history → closing_count history ≡ one_if (state_after trace history).closed
  unfolding Closed
  closings history legal = history_induction trace Closed refl closed_next history legal
