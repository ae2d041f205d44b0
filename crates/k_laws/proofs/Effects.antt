-- What the effect of an operation leaves: who has ended, how many operations were done, and which objects are there.
use Rattle.std.proofs.Common.{◌≡◌, ℕ, ◌==◌, true, false, cond, refl, ap, ◌∙◌, List, [], ◌∷◌, ◌++◌, length, Option, Some, None, IsTrue}
use Rattle.std.proofs.lemmas.Bool.{or_left}
use Rattle.std.proofs.lemmas.List.{length-map}
use Rattle.std.proofs.lemmas.List.Folds.{list_any-append}
use Rattle.k_types.specs.declared.names.Name.{Name}
use Rattle.k_types.specs.declared.op.Op.{Op}
use Rattle.k_types.specs.declared.op.Op.TheVariants.{Store, Put, Freeze, Exit, Kill}
use Rattle.k_types.specs.declared.event.Fault.{Fault}
use Rattle.k_types.specs.Names.{among, heap_eq}
use Rattle.k_types.specs.Trace.{Trace}
use Rattle.k_types.specs.State.{State, Object, Refers, Holds, register}
use Rattle.k_types.specs.Owners.{owner_of}
use Rattle.k_types.specs.Updates.{set_register, create, write, object_after_write, add_exit, open_scan, set_phase, add_share, keep_shares, clear_registers, end_process, turn_exits, set_max}
use Rattle.k_types.specs.Effects.{effect, effect_unless, after_store, after_put, after_end_of, after_kill, with_exit_of_store}
use Rattle.k_laws.proofs.Rest.{store_rest, put_rest, freeze_rest, kill_rest}

module _ (trace : Trace) where
  -- who has ended stays ended
  killed_ended : (st : State) (k q : ℕ) → IsTrue (among q st.ended) → IsTrue (among q (after_kill trace k st).ended)
  unfolding after_kill after_end_of end_process clear_registers keep_shares turn_exits
  killed_ended st k q t = elim (among k st.ended) as (λ b. IsTrue (among q (cond b st (after_end_of trace k st)).ended)) [
    | true ↦ t
    | false ↦ list_any-append (λ m. m == q) st.ended (k ∷ []) ∙ or_left (among q st.ended) _ t
  ]

  effect_ended : (st : State) (p : ℕ) (op : Op) (q : ℕ) → IsTrue (among q st.ended) → IsTrue (among q (effect trace p op st).ended)
  unfolding effect set_register create open_scan add_share set_phase after_end_of end_process clear_registers keep_shares turn_exits set_max
  effect_ended st p (Store base i value) q t = ap (λ (s : State). among q s.ended) (store_rest trace st (register st.registers p base.0) i (register st.registers p value.0)) ∙ t
  effect_ended st p (Put base i number) q t = ap (λ (s : State). among q s.ended) (put_rest st (register st.registers p base.0) i number) ∙ t
  effect_ended st p (Freeze s root) q t = ap (λ (s : State). among q s.ended) (freeze_rest st s.0 (register st.registers p root.0)) ∙ t
  effect_ended st p Exit q t = list_any-append (λ m. m == q) st.ended (p ∷ []) ∙ or_left (among q st.ended) _ t
  effect_ended st p (Kill k) q t = killed_ended st k.0 q t
  effect_ended st p _ q t = t

  pub unless_ended : (f : Option Fault) (st : State) (p : ℕ) (op : Op) (q : ℕ) → IsTrue (among q st.ended) → IsTrue (among q (effect_unless f trace p op st).ended)
  unless_ended None st p op q t = effect_ended st p op q t
  unless_ended (Some f) st p op q t = t

  -- no operation is done by an effect
  effect_done : (st : State) (p : ℕ) (op : Op) → (effect trace p op st).done ≡ st.done
  unfolding effect set_register create open_scan add_share set_phase after_end_of end_process clear_registers keep_shares turn_exits set_max
  effect_done st p (Store base i value) = ap (λ (s : State). s.done) (store_rest trace st (register st.registers p base.0) i (register st.registers p value.0))
  effect_done st p (Put base i number) = ap (λ (s : State). s.done) (put_rest st (register st.registers p base.0) i number)
  effect_done st p (Freeze s root) = ap (λ (s : State). s.done) (freeze_rest st s.0 (register st.registers p root.0))
  effect_done st p (Kill q) = ap (λ (s : State). s.done) (kill_rest trace st q.0)
  effect_done st p _ = refl

  -- a store and a number that is put change no object's name, and add none
  pub linked_objects : (st : State) (x : Name) (v : Option Name) → (with_exit_of_store trace x v st).objects ≡ st.objects
  unfolding with_exit_of_store add_exit
  linked_objects st x None = refl
  linked_objects st x (Some y) =
      elim (heap_eq (owner_of trace st x.seg.0) (owner_of trace st y.seg.0)) as (λ b. (cond b st (add_exit (owner_of trace st x.seg.0) y st)).objects ≡ st.objects) [ true ↦ refl | false ↦ refl ]

  pub stored_length : (st : State) (b : Option Name) (i : ℕ) (v : Option Name) → length (after_store trace b i v st).objects ≡ length st.objects
  unfolding after_store write
  stored_length st None i v = refl
  stored_length st (Some x) i v = length-map (with_exit_of_store trace x v st).objects (object_after_write x i (Refers v)) ∙ ap length (linked_objects st x v)

  pub put_length : (st : State) (b : Option Name) (i n : ℕ) → length (after_put b i n st).objects ≡ length st.objects
  unfolding after_put write
  put_length st None i n = refl
  put_length st (Some x) i n = length-map st.objects (object_after_write x i (Holds n))

pub unless_done : (fault : Option Fault) (trace : Trace) (p : ℕ) (op : Op) (st : State) → (effect_unless fault trace p op st).done ≡ st.done
unless_done None trace p op st = effect_done trace st p op
unless_done (Some fault) trace p op st = refl
