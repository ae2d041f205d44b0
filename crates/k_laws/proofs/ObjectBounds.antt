-- The objects that are there are at most the allocations, and one more for the directory.
use Rattle.std.proofs.Common.{◌≡◌, ℕ, suc, ◌+◌, ◌≤◌, Bool, true, false, cond, refl, ap, List, [], ◌∷◌, length, filter, Option, Some, None, arith}
use Rattle.k_types.specs.declared.names.Name.{Name}
use Rattle.k_types.specs.declared.names.TypeId.{TypeId}
use Rattle.k_types.specs.declared.names.Heap.TheVariants.{Kernel, Shared}
use Rattle.k_types.specs.declared.op.Op.{Op}
use Rattle.k_types.specs.declared.op.Op.TheVariants.{New, KNew, SNew, Store, Put, Freeze, Kill}
use Rattle.k_types.specs.declared.event.Fault.{Fault}
use Rattle.k_types.specs.declared.event.Event.{Event}
use Rattle.k_types.specs.declared.event.Event.TheVariants.{Done, Ended, Absorbed, Closing}
use Rattle.k_types.specs.Names.{name_lt}
use Rattle.k_types.specs.Trace.{Trace, segment_of}
use Rattle.k_types.specs.State.{State, Object, opening, register}
use Rattle.k_types.specs.Owners.{user}
use Rattle.k_types.specs.Replies.{first_fault, faults}
use Rattle.k_types.specs.Updates.{count_done, set_register, create, with_object, open_scan, set_phase, add_share, keep_objects, keep_exits, keep_shares, close_scan, clear_registers, end_process, turn_exits, close, set_max}
use Rattle.k_types.specs.Effects.{step, survives, effect, effect_unless, after_new, after_operation, after_freeze, after_end_of, after_ended, after_absorbed, after_closing}
use Rattle.k_types.specs.Steps.{run, state_after}
use Rattle.k_laws.specs.Counts.{one_if, is_allocation, has_allocated, allocations}
use Rattle.k_laws.proofs.Rest.{freeze_rest, kill_rest}
use Rattle.k_laws.proofs.Effects.{stored_length, put_length}

placed_length : (o : Object) (xs : List Object) → length (with_object o xs) ≡ length xs + 1
placed_length o [] = refl
placed_length o (x ∷ xs) =
    elim (name_lt x.name o.name) as (λ b. length (cond b (x ∷ with_object o xs) (o ∷ x ∷ xs)) ≡ suc (length xs) + 1) [
      | true ↦ omega (arith, placed_length o xs)
      | false ↦ omega arith
    ]

kept_length : (stays : Name → Bool) (xs : List Object) → length (filter (λ o. stays o.name) xs) ≤ length xs
kept_length stays [] = omega arith
kept_length stays (x ∷ xs) =
    elim (stays x.name) as (λ b. length (cond b (x ∷ filter (λ o. stays o.name) xs) (filter (λ o. stays o.name) xs)) ≤ suc (length xs)) [
      | true ↦ omega (arith, kept_length stays xs)
      | false ↦ omega (arith, kept_length stays xs)
    ]

module _ (trace : Trace) where
  new_objects : (st : State) (p r seg : ℕ) (ty : TypeId) → length (after_new trace p r seg ty st).objects ≡ length st.objects + 1
  unfolding set_register create
  new_objects st p r seg ty = placed_length _ st.objects

  freeze_objects : (st : State) (s : ℕ) (root : Option Name) → (after_freeze s root st).objects ≡ st.objects
  freeze_objects st s root = ap (λ (s : State). s.objects) (freeze_rest st s root)

  effect_objects : (st : State) (p : ℕ) (op : Op) → length (effect trace p op st).objects ≤ length st.objects + one_if (is_allocation op)
  unfolding effect set_register open_scan add_share set_phase after_end_of end_process clear_registers keep_shares turn_exits set_max
  effect_objects st p (New r ty) = omega (arith, new_objects st p r.0 (segment_of trace (user p)) ty)
  effect_objects st p (KNew r ty) = omega (arith, new_objects st p r.0 (segment_of trace Kernel) ty)
  effect_objects st p (SNew r s ty) = omega (arith, new_objects st p r.0 (segment_of trace (Shared s)) ty)
  effect_objects st p (Store base i value) = omega (arith, stored_length trace st (register st.registers p base.0) i (register st.registers p value.0))
  effect_objects st p (Put base i number) = omega (arith, put_length trace st (register st.registers p base.0) i number)
  effect_objects st p (Freeze s root) = omega (arith, ap (λ (xs : List Object). length xs) (freeze_objects st s.0 (register st.registers p root.0)))
  effect_objects st p (Kill q) = omega (arith, ap (λ (s : State). length s.objects) (kill_rest trace st q.0))
  effect_objects st p _ = omega arith

  unless_objects : (f : Option Fault) (st : State) (p : ℕ) (op : Op) → length (effect_unless f trace p op st).objects ≤ length st.objects + one_if (is_allocation op)
  unless_objects None st p op = effect_objects st p op
  unless_objects (Some f) st p op = omega arith

  step_objects : (st : State) (event : Event) → length (step trace st event).objects ≤ length st.objects + one_if (has_allocated event)
  unfolding step after_operation count_done after_ended after_absorbed after_closing close_scan keep_shares keep_exits keep_objects close set_phase open_scan
  step_objects st (Done pid op said) = unless_objects (first_fault (faults trace st pid.0 op)) st pid.0 op
  step_objects st (Ended h a b c d) = omega (arith, kept_length (survives trace st h) st.objects)
  step_objects st (Absorbed s) = omega arith
  step_objects st Closing = omega arith

  run_objects : (st : State) (events : List Event) → length (run trace st events).objects ≤ length st.objects + allocations events
  run_objects st [] = omega arith
  run_objects st (event ∷ events) = omega (arith, run_objects (step trace st event) events, step_objects st event)

pub objects_at_most_allocations : (trace : Trace) (history : List Event) → length (state_after trace history).objects ≤ 1 + allocations history
objects_at_most_allocations trace history = run_objects trace (opening trace) history
