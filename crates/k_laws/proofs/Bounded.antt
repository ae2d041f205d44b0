-- The numbers of the end of a collection are bounded by what was done before.
use Rattle.std.proofs.Common.{ℕ, ◌+◌, ◌≤◌, ◌==◌, not, Bool, true, false, cond, ap, List, [], ◌∷◌, ◌++◌, length, Option, Some, None, arith, le_refl}
use Rattle.std.proofs.lemmas.List.{length-append}
use Rattle.k_types.specs.declared.names.Heap.{Heap}
use Rattle.k_types.specs.declared.op.Op.{Op}
use Rattle.k_types.specs.declared.op.Op.TheVariants.{Store, Put, Share, Freeze, Attach, Exit, Kill}
use Rattle.k_types.specs.declared.event.Event.{Event}
use Rattle.k_types.specs.declared.event.Event.TheVariants.{Done, Ended, Absorbed, Closing}
use Rattle.k_types.specs.declared.event.Fault.{Fault}
use Rattle.k_types.specs.Names.{heap_eq, among}
use Rattle.k_types.specs.Totals.{total}
use Rattle.k_types.specs.Trace.{Trace}
use Rattle.k_types.specs.TraceRules.{AreLimits}
use Rattle.k_types.specs.State.{Sharing, State, has_share, opening, register}
use Rattle.k_types.specs.Owners.{bytes_by, bytes_of, object_bytes, owner_of}
use Rattle.k_types.specs.Replies.{faults, first_fault}
use Rattle.k_types.specs.Updates.{add_share, clear_registers, close, close_scan, count_done, create, end_process, keep_exits, keep_objects, keep_shares, open_scan, set_phase, set_register, turn_exits, set_max}
use Rattle.k_types.specs.Effects.{after_absorbed, after_closing, after_end_of, after_ended, after_operation, effect, effect_unless, share_stays, step, after_kill}
use Rattle.k_types.specs.Steps.{IsLegalHistory, run, state_after}
use Rattle.k_laws.proofs.Histories.{legal_front, legal_rest}
use Rattle.k_laws.proofs.Rest.{freeze_rest, put_rest, store_rest}
use Rattle.k_laws.specs.Counts.{is_operation, one_if, operation_count}
use Rattle.k_laws.proofs.AllExits.{exits_at_most_stores}
use Rattle.k_laws.proofs.Counting.{total_fewer}
use Rattle.k_laws.proofs.EndNumbers.{numbers_are_right}
use Rattle.k_laws.specs.Fits.{AreEndNumbers, HasFewFields}
use Rattle.k_laws.proofs.Fitting.{objects_bounded}
use Rattle.k_types.proofs.Lists.{length-kept}

module _ (trace : Trace) where
  added : (b : Bool) (shares : List Sharing) (e : Sharing) → length (cond b shares (shares ++ e ∷ [])) ≤ length shares + 1
  added true shares e = omega arith
  added false shares e = omega (arith, length-append shares (e ∷ []))

  killed_shares : (st : State) (q : ℕ) → length (after_kill trace q st).shares ≤ length st.shares
  unfolding after_kill after_end_of end_process clear_registers keep_shares turn_exits
  killed_shares st q = elim (among q st.ended) as (λ b. length (cond b st (after_end_of trace q st)).shares ≤ length st.shares) [
    | true ↦ le_refl (length st.shares)
    | false ↦ length-kept (λ (e : Sharing). not (e.process == q)) st.shares
  ]

  effect_shares : (st : State) (p : ℕ) (op : Op) → length (effect trace p op st).shares ≤ length st.shares + 1
  unfolding effect set_register create open_scan add_share set_phase after_end_of end_process clear_registers keep_shares turn_exits set_max
  effect_shares st p (Store base i value) = let same = ap (λ (s : State). length s.shares) (store_rest trace st (register st.registers p base.0) i (register st.registers p value.0)) in omega (arith, same)
  effect_shares st p (Put base i number) = let same = ap (λ (s : State). length s.shares) (put_rest st (register st.registers p base.0) i number) in omega (arith, same)
  effect_shares st p (Share s) = added (has_share st.shares p s.0) st.shares (record { process = p; heap = s.0 })
  effect_shares st p (Freeze s root) = let same = ap (λ (s : State). length s.shares) (freeze_rest st s.0 (register st.registers p root.0)) in omega (arith, same)
  effect_shares st p (Attach r s) = added (has_share st.shares p s.0) st.shares (record { process = p; heap = s.0 })
  effect_shares st p Exit = let fewer = length-kept (λ (e : Sharing). not (e.process == p)) st.shares in omega (arith, fewer)
  effect_shares st p (Kill q) = omega (arith, killed_shares st q.0)
  effect_shares st p _ = omega arith

  unless_shares : (f : Option Fault) (st : State) (p : ℕ) (op : Op) → length (effect_unless f trace p op st).shares ≤ length st.shares + 1
  unless_shares None st p op = effect_shares st p op
  unless_shares (Some f) st p op = omega arith

  step_shares : (st : State) (event : Event) → length (step trace st event).shares ≤ length st.shares + one_if (is_operation event)
  unfolding step after_operation count_done after_ended after_absorbed after_closing close_scan keep_shares keep_exits keep_objects close set_phase open_scan
  step_shares st (Done pid op said) = unless_shares (first_fault (faults trace st pid.0 op)) st pid.0 op
  step_shares st (Ended h a b c d) = let fewer = length-kept (share_stays trace st h) st.shares in omega (arith, fewer)
  step_shares st (Absorbed s) = omega arith
  step_shares st Closing = omega arith

  run_shares : (st : State) (events : List Event) → length (run trace st events).shares ≤ length st.shares + operation_count events
  run_shares st [] = omega arith
  run_shares st (event ∷ events) = omega (arith, run_shares (step trace st event) events, step_shares st event)

heap_bytes : (trace : Trace) (st : State) (h : Heap) → bytes_of trace st h ≤ total object_bytes st.objects
unfolding bytes_by
heap_bytes trace st h = total_fewer object_bytes (λ o. heap_eq (owner_of trace st o.name.seg.0) h) st.objects

pub end_bounded : (trace : Trace) (before rest : List Event) (h : Heap) (objects bytes exits shares : ℕ) → AreLimits trace → HasFewFields trace →
    IsLegalHistory trace (before ++ Ended h objects bytes exits shares ∷ rest) → AreEndNumbers before (state_after trace before) objects bytes exits shares
end_bounded trace before rest h objects bytes exits shares limits few legal =
    let st : State = state_after trace before in
    let front = legal_front trace (opening trace) before (Ended h objects bytes exits shares ∷ rest) legal in
    let may = (legal_rest trace (opening trace) before (Ended h objects bytes exits shares ∷ rest) legal).0 in
    let goes = numbers_are_right trace st h objects bytes exits shares may in
    let bound = objects_bounded trace before limits few front in
    record {
      objects_fit = omega (arith, goes.objects_gone, bound.objects);
      bytes_fit = omega (arith, goes.bytes_gone, heap_bytes trace st h, bound.bytes, bound.objects);
      exits_fit = omega (arith, goes.exits_gone, exits_at_most_stores trace before);
      shares_fit = omega (arith, goes.shares_gone, run_shares trace (opening trace) before);
    }
