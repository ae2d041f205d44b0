-- The serials that a segment has given are at most its allocations, and one more in the kernel's for the directory.
use Rattle.std.proofs.Common.{◌≡◌, ℕ, zero, suc, ◌+◌, ◌≤◌, ◌==◌, refl, ap, sym, ◌∙◌, inl, inr, List, [], ◌∷◌, get_or, length, Option, Some, None, arith, eq-eqb, ne_eqb}
use Rattle.k_types.specs.declared.names.Name.{Name}
use Rattle.k_types.specs.declared.names.TypeId.{TypeId}
use Rattle.k_types.specs.declared.names.Heap.TheVariants.{Kernel, Shared}
use Rattle.k_types.specs.declared.op.Op.{Op}
use Rattle.k_types.specs.declared.op.Op.TheVariants.{New, KNew, SNew, Store, Put, Freeze, Kill}
use Rattle.k_types.specs.declared.event.Fault.{Fault}
use Rattle.k_types.specs.declared.event.Event.{Event}
use Rattle.k_types.specs.declared.event.Event.TheVariants.{Done, Ended, Absorbed, Closing}
use Rattle.k_types.specs.Trace.{Trace, segment_of}
use Rattle.k_types.specs.State.{State, opening, register}
use Rattle.k_types.specs.Owners.{user}
use Rattle.k_types.specs.Replies.{first_fault, faults}
use Rattle.k_types.specs.Updates.{count_done, set_register, create, open_scan, set_phase, add_share, keep_objects, keep_exits, keep_shares, close_scan, clear_registers, end_process, turn_exits, close, set_max}
use Rattle.k_types.specs.Effects.{step, effect, effect_unless, after_new, after_operation, after_store, after_put, after_freeze, after_end_of, after_ended, after_absorbed, after_closing}
use Rattle.k_types.specs.Steps.{run, state_after}
use Rattle.k_laws.specs.Counts.{one_if, allocates_in, has_allocated_in, allocation_count}
use Rattle.k_types.proofs.Lists.{get_or-set_cases}
use Rattle.k_laws.proofs.Sizes.{zeros_at}
use Rattle.k_laws.proofs.Rest.{store_rest, put_rest, freeze_rest, kill_rest}

module _ (trace : Trace) (seg : ℕ) where
  made_new : (st : State) (p r at : ℕ) (ty : TypeId) → get_or (after_new trace p r at ty st).made seg 0 ≤ get_or st.made seg 0 + one_if (at == seg)
  unfolding set_register create
  made_new st p r at ty =
      elim (get_or-set_cases st.made at seg (get_or st.made at 0 + 1) 0) [
        | inl same ↦ omega (arith, same)
        | inr here ↦
            let one = ap one_if (eq-eqb at seg (sym here.0)) in
            let was = ap (λ k. get_or st.made k 0) here.0 in
            omega (arith, here.1, one, was)
      ]

  store_made : (st : State) (x : Option Name) (i : ℕ) (v : Option Name) → (after_store trace x i v st).made ≡ st.made
  store_made st x i v = ap (λ (s : State). s.made) (store_rest trace st x i v)

  put_made : (st : State) (x : Option Name) (i n : ℕ) → (after_put x i n st).made ≡ st.made
  put_made st x i n = ap (λ (s : State). s.made) (put_rest st x i n)

  freeze_made : (st : State) (s : ℕ) (root : Option Name) → (after_freeze s root st).made ≡ st.made
  freeze_made st s root = ap (λ (s : State). s.made) (freeze_rest st s root)

  same_made : (made made' : List ℕ) → made' ≡ made → get_or made' seg 0 ≤ get_or made seg 0 + 0
  same_made made made' e = let same = ap (λ given. get_or given seg 0) e in omega (arith, same)

  effect_made : (st : State) (p : ℕ) (op : Op) → get_or (effect trace p op st).made seg 0 ≤ get_or st.made seg 0 + one_if (allocates_in trace seg p op)
  unfolding effect set_register open_scan add_share set_phase after_end_of end_process clear_registers keep_shares turn_exits set_max
  effect_made st p (New r ty) = made_new st p r.0 (segment_of trace (user p)) ty
  effect_made st p (KNew r ty) = made_new st p r.0 (segment_of trace Kernel) ty
  effect_made st p (SNew r s ty) = made_new st p r.0 (segment_of trace (Shared s)) ty
  effect_made st p (Store base i value) = same_made st.made _ (store_made st (register st.registers p base.0) i (register st.registers p value.0))
  effect_made st p (Put base i number) = same_made st.made _ (put_made st (register st.registers p base.0) i number)
  effect_made st p (Freeze s root) = same_made st.made _ (freeze_made st s.0 (register st.registers p root.0))
  effect_made st p (Kill q) = same_made st.made _ (ap (λ (s : State). s.made) (kill_rest trace st q.0))
  effect_made st p _ = omega arith

  unless_made : (f : Option Fault) (st : State) (p : ℕ) (op : Op) → get_or (effect_unless f trace p op st).made seg 0 ≤ get_or st.made seg 0 + one_if (allocates_in trace seg p op)
  unless_made None st p op = effect_made st p op
  unless_made (Some f) st p op = omega arith

  step_made : (st : State) (event : Event) → get_or (step trace st event).made seg 0 ≤ get_or st.made seg 0 + one_if (has_allocated_in trace seg event)
  unfolding step after_operation count_done after_ended after_absorbed after_closing close_scan keep_shares keep_exits keep_objects close set_phase open_scan
  step_made st (Done pid op said) = unless_made (first_fault (faults trace st pid.0 op)) st pid.0 op
  step_made st (Ended h a b c d) = omega arith
  step_made st (Absorbed s) = omega arith
  step_made st Closing = omega arith

  run_made : (st : State) (events : List Event) → get_or (run trace st events).made seg 0 ≤ get_or st.made seg 0 + allocation_count trace seg events
  run_made st [] = omega arith
  run_made st (event ∷ events) = omega (arith, run_made (step trace st event) events, step_made st event)

opening_made : (trace : Trace) (seg : ℕ) → get_or (opening trace).made seg 0 ≡ one_if (seg == 0)
opening_made trace zero = refl
opening_made trace (suc seg) = zeros_at (length trace.procs + trace.shared_heaps) seg ∙ sym (ap one_if (ne_eqb (suc seg) 0 (λ e. absurd (omega (arith, e)))))

pub serials_at_most_allocations : (trace : Trace) (history : List Event) (seg : ℕ) → get_or (state_after trace history).made seg 0 ≤ one_if (seg == 0) + allocation_count trace seg history
serials_at_most_allocations trace history seg = omega (arith, run_made trace seg (opening trace) history, opening_made trace seg)
