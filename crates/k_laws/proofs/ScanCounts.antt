-- How many collections, absorptions and closings a history has.
use Rattle.std.proofs.Common.{◌≡◌, ℕ, ◌+◌, not, cond, refl, ap, sym, ◌∙◌, inl, inr, List, [], ◌∷◌, ◌++◌, filter, find, length, Option, Some, None, option_map, arith, IsTrue}
use Rattle.std.proofs.lemmas.Bool.{false≢true, cases_Bool}
use Rattle.k_types.specs.declared.names.Name.{Name}
use Rattle.k_types.specs.declared.names.Heap.{Heap}
use Rattle.k_types.specs.declared.op.Op.{Op}
use Rattle.k_types.specs.declared.op.Op.TheVariants.{Store, Put, Collect, KCollect, Freeze, Kill}
use Rattle.k_types.specs.declared.event.Fault.{Fault}
use Rattle.k_types.specs.declared.event.Event.{Event}
use Rattle.k_types.specs.declared.event.Event.TheVariants.{Done, Ended, Absorbed as AbsorbedEvent, Closing}
use Rattle.k_types.specs.Names.{heap_eq}
use Rattle.k_types.specs.TraceRules.{AreLimits}
use Rattle.k_types.specs.Trace.{Trace}
use Rattle.k_types.specs.State.{State, Scan, register, scan_of}
use Rattle.k_types.specs.Replies.{first_fault, faults}
use Rattle.k_types.specs.Updates.{count_done, set_register, create, open_scan, set_phase, add_share, keep_objects, keep_exits, keep_shares, close_scan, clear_registers, end_process, turn_exits, close, set_max}
use Rattle.k_types.specs.Effects.{step, effect, effect_unless, after_operation, after_store, after_put, after_freeze, after_end_of, after_ended, after_absorbed, after_closing}
use Rattle.k_types.specs.Steps.{IsPossible, IsLegalHistory, state_after}
use Rattle.k_types.specs.Sound.{IsSound, AreDistinctScans}
use Rattle.k_laws.specs.Counts.{one_if, begins_collection, has_begun, begun_count, is_end, ended_count}
use Rattle.k_types.proofs.NameTests.{heap_eq-true}
use Rattle.k_types.proofs.Objects.{some_is}
use Rattle.k_laws.proofs.Histories.{history_induction, state_next}
use Rattle.k_laws.proofs.SoundSteps.{legal_sound}
use Rattle.k_laws.proofs.Rest.{store_rest, put_rest, freeze_rest, kill_rest}
use Rattle.k_types.proofs.Sums.{total_push}

module _ (trace : Trace) where
  store_scans : (st : State) (x : Option Name) (i : ℕ) (v : Option Name) → (after_store trace x i v st).scans ≡ st.scans
  store_scans st x i v = ap (λ (s : State). s.scans) (store_rest trace st x i v)

  put_scans : (st : State) (x : Option Name) (i n : ℕ) → (after_put x i n st).scans ≡ st.scans
  put_scans st x i n = ap (λ (s : State). s.scans) (put_rest st x i n)

  freeze_scans : (st : State) (s : ℕ) (root : Option Name) → (after_freeze s root st).scans ≡ st.scans
  freeze_scans st s root = ap (λ (s : State). s.scans) (freeze_rest st s root)

  effect_scans : (st : State) (p : ℕ) (op : Op) → length (effect trace p op st).scans ≡ length st.scans + one_if (begins_collection op)
  unfolding effect set_register create open_scan add_share set_phase after_end_of end_process clear_registers keep_shares turn_exits set_max
  effect_scans st p (Store base i value) = let same = ap length (store_scans st (register st.registers p base.0) i (register st.registers p value.0)) in omega arith
  effect_scans st p (Put base i number) = let same = ap length (put_scans st (register st.registers p base.0) i number) in omega arith
  effect_scans st p (Freeze s root) = let same = ap length (freeze_scans st s.0 (register st.registers p root.0)) in omega arith
  effect_scans st p (Kill q) = let same = ap (λ (s : State). length s.scans) (kill_rest trace st q.0) in omega arith
  effect_scans st p _ = omega arith

  -- a collection is never refused
  pub never_refused : (st : State) (p : ℕ) (op : Op) → IsTrue (begins_collection op) → first_fault (faults trace st p op) ≡ None
  unfolding faults first_fault
  never_refused st p Collect t = refl
  never_refused st p KCollect t = refl
  never_refused st p _ t = absurd (false≢true t)

  pub done_scans : (st : State) (p : ℕ) (op : Op) → length (after_operation trace p op st).scans ≡ length st.scans + one_if (begins_collection op)
  unfolding after_operation count_done
  done_scans st p op = go (first_fault (faults trace st p op)) refl
    where
      go : (f : Option Fault) → first_fault (faults trace st p op) ≡ f → length (effect_unless f trace p op st).scans ≡ length st.scans + one_if (begins_collection op)
      go None e = effect_scans st p op
      go (Some f) e = elim (cases_Bool (begins_collection op)) [
        | inl begins ↦ absurd (cc (sym (never_refused st p op begins) ∙ e))
        | inr other ↦ let none = ap one_if other in omega arith
      ]

-- no scan of the heap, so none is closed
none_closed : (h : Heap) (scans : List Scan) → scan_of scans h ≡ None → filter (λ s. not (heap_eq s.heap h)) scans ≡ scans
none_closed h [] none = refl
none_closed h (scan ∷ scans) none =
    elim (cases_Bool (heap_eq scan.heap h)) [
      | inl same ↦ absurd (found same none)
      | inr apart ↦ rw apart (ap (λ rest. scan ∷ rest) (none_closed h scans (ap (λ b. option_map (λ (s : Scan). s.roots) (cond b (Some scan) (find (λ s. heap_eq s.heap h) scans))) (sym apart) ∙ none)))
    ]
  where
    found : IsTrue (heap_eq scan.heap h) → scan_of (scan ∷ scans) h ≡ None → ⊥
    found same none = cc (sym (ap (λ b. option_map (λ (s : Scan). s.roots) (cond b (Some scan) (find (λ s. heap_eq s.heap h) scans))) same) ∙ none)

one_closed : (h : Heap) (scans : List Scan) (roots : List Name) → AreDistinctScans scans → scan_of scans h ≡ Some roots → length (filter (λ s. not (heap_eq s.heap h)) scans) + 1 ≡ length scans
one_closed h [] roots distinct opened = absurd (cc opened)
one_closed h (scan ∷ scans) roots distinct opened =
    elim (cases_Bool (heap_eq scan.heap h)) [
      | inl same ↦
          let none = none_closed h scans (ap (scan_of scans) (sym (heap_eq-true scan.heap h same)) ∙ distinct.0) in
          rw same (let all = ap length none in omega arith)
      | inr apart ↦
          let rest = one_closed h scans roots distinct.1 (ap (λ b. option_map (λ (s : Scan). s.roots) (cond b (Some scan) (find (λ s. heap_eq s.heap h) scans))) (sym apart) ∙ opened) in
          rw apart (omega (arith, rest))
    ]

module _ (trace : Trace) (limits : AreLimits trace) where
  -- each collection that was begun has ended or is open
  Balanced : List Event → Type 0
  Balanced history = ended_count history + length (state_after trace history).scans ≡ begun_count history

  ended_scans : (st : State) (h : Heap) (roots : List Name) → IsSound trace st → scan_of st.scans h ≡ Some roots → length (after_ended trace h st).scans + 1 ≡ length st.scans
  unfolding after_ended close_scan keep_shares keep_exits keep_objects
  ended_scans st h roots sound opened = one_closed h st.scans roots sound.shape.distinct_scans opened

  absorbed_scans : (st : State) (s : ℕ) → (after_absorbed trace s st).scans ≡ st.scans
  unfolding after_absorbed set_phase keep_exits
  absorbed_scans st s = refl

  closing_scans : (st : State) → length (after_closing trace st).scans ≡ length st.scans + 1
  unfolding after_closing close open_scan
  closing_scans st = omega arith

  balanced_next : (history : List Event) (event : Event) → IsLegalHistory trace history → IsPossible trace (state_after trace history) event → Balanced history → Balanced (history ++ event ∷ [])
  unfolding Balanced step
  balanced_next history event legal may before =
      rw (state_next trace history event, total_push (λ e. one_if (is_end e)) history event, total_push (λ e. one_if (has_begun e)) history event) (go event may)
    where
      go : (event : Event) → IsPossible trace (state_after trace history) event → ended_count history + one_if (is_end event) + length (step trace (state_after trace history) event).scans ≡ begun_count history + one_if (has_begun event)
      go (Done pid op said) may = omega (arith, before, done_scans trace (state_after trace history) pid.0 op)
      go (Ended h a b c d) may =
          let scan = some_is (scan_of (state_after trace history).scans h) may.scanned in
          omega (arith, before, ended_scans (state_after trace history) h scan.0 (legal_sound trace history limits legal) scan.1)
      go (AbsorbedEvent s) may = let same = ap length (absorbed_scans (state_after trace history) s.0) in omega (arith, before, same)
      go Closing may = omega (arith, before, closing_scans (state_after trace history))

  pub collections_balance : (history : List Event) → IsLegalHistory trace history → ended_count history + length (state_after trace history).scans ≡ begun_count history
  unfolding Balanced
  collections_balance history legal = history_induction trace Balanced (omega arith) balanced_next history legal
