-- Only a resize changes the maxima.
use Rattle.std.proofs.Common.{◌≡◌, ℕ, Bool, false, not, refl, ap, sym, List, [], ◌∷◌, ◌∙◌, Option, Some, None, IsTrue, IsFalse}
use Rattle.std.specs.List.{list_all}
use Rattle.std.proofs.lemmas.Bool.{false≢true, and_parts, not-true}
use Rattle.k_types.specs.declared.names.Name.{Name}
use Rattle.k_types.specs.declared.op.Op.{Op}
use Rattle.k_types.specs.declared.op.Op.TheVariants.{Store, Put, Freeze, Kill, Resize}
use Rattle.k_types.specs.declared.event.Fault.{Fault}
use Rattle.k_types.specs.declared.event.Event.{Event}
use Rattle.k_types.specs.declared.event.Event.TheVariants.{Done, Ended, Absorbed, Closing}
use Rattle.k_types.specs.Trace.{Trace}
use Rattle.k_types.specs.TraceRules.{is_resize}
use Rattle.k_types.specs.State.{State, register}
use Rattle.k_types.specs.Replies.{first_fault, faults}
use Rattle.k_types.specs.Updates.{count_done, set_register, create, open_scan, set_phase, add_share, keep_objects, keep_exits, keep_shares, close_scan, clear_registers, end_process, turn_exits, close}
use Rattle.k_types.specs.Effects.{step, effect, effect_unless, after_operation, after_store, after_put, after_freeze, after_end_of, after_ended, after_absorbed, after_closing}
use Rattle.k_types.specs.Steps.{run}
use Rattle.k_laws.proofs.Rest.{store_rest, put_rest, freeze_rest, kill_rest}

-- the event sets a maximum, if it isn't refused
abbrev pub resizes : Event → Bool
resizes (Done pid op said) = is_resize op
resizes _ = false

module _ (trace : Trace) where
  store_maxima : (st : State) (x : Option Name) (i : ℕ) (v : Option Name) → (after_store trace x i v st).maxima ≡ st.maxima
  store_maxima st x i v = ap (λ (s : State). s.maxima) (store_rest trace st x i v)

  put_maxima : (st : State) (x : Option Name) (i n : ℕ) → (after_put x i n st).maxima ≡ st.maxima
  put_maxima st x i n = ap (λ (s : State). s.maxima) (put_rest st x i n)

  freeze_maxima : (st : State) (s : ℕ) (root : Option Name) → (after_freeze s root st).maxima ≡ st.maxima
  freeze_maxima st s root = ap (λ (s : State). s.maxima) (freeze_rest st s root)

  pub effect_maxima : (st : State) (p : ℕ) (op : Op) → IsFalse (is_resize op) → (effect trace p op st).maxima ≡ st.maxima
  unfolding effect set_register create open_scan add_share set_phase after_end_of end_process clear_registers keep_shares turn_exits
  effect_maxima st p (Store base i value) other = store_maxima st (register st.registers p base.0) i (register st.registers p value.0)
  effect_maxima st p (Put base i number) other = put_maxima st (register st.registers p base.0) i number
  effect_maxima st p (Freeze s root) other = freeze_maxima st s.0 (register st.registers p root.0)
  effect_maxima st p (Kill q) other = ap (λ (s : State). s.maxima) (kill_rest trace st q.0)
  effect_maxima st p (Resize m max) other = absurd (false≢true (sym other))
  effect_maxima st p _ other = refl

  unless_maxima : (f : Option Fault) (st : State) (p : ℕ) (op : Op) → IsFalse (is_resize op) → (effect_unless f trace p op st).maxima ≡ st.maxima
  unless_maxima None st p op other = effect_maxima st p op other
  unless_maxima (Some f) st p op other = refl

  pub step_maxima : (st : State) (event : Event) → IsFalse (resizes event) → (step trace st event).maxima ≡ st.maxima
  unfolding step after_operation count_done after_ended after_absorbed after_closing close_scan keep_shares keep_exits keep_objects close set_phase open_scan
  step_maxima st (Done pid op said) other = unless_maxima (first_fault (faults trace st pid.0 op)) st pid.0 op other
  step_maxima st (Ended h a b c d) other = refl
  step_maxima st (Absorbed s) other = refl
  step_maxima st Closing other = refl

  pub run_maxima : (st : State) (events : List Event) → IsTrue (list_all (λ event. not (resizes event)) events) → (run trace st events).maxima ≡ st.maxima
  run_maxima st [] none = refl
  run_maxima st (event ∷ events) none =
      let parts = and_parts (not (resizes event)) (list_all (λ event. not (resizes event)) events) none in
      run_maxima (step trace st event) events parts.1 ∙ step_maxima st event (not-true _ parts.0)
