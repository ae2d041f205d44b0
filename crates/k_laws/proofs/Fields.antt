-- Each number that a field holds is one that an operation has put there.
use Rattle.std.proofs.Common.{◌≡◌, ℕ, zero, suc, ◌<◌, ◌^◌, nat_lt, Bool, true, false, cond, refl, sym, subst, ap, inl, inr, List, [], ◌∷◌, map, filter, replicate, Option, Some, None, get_or, set, arith, ltb-true, IsTrue}
use Rattle.std.specs.List.{AllByRecursion}
use Rattle.std.proofs.lemmas.Bool.{and_parts}
use Rattle.k_types.specs.declared.names.Name.{Name}
use Rattle.k_types.specs.declared.names.TypeId.{TypeId}
use Rattle.k_types.specs.declared.names.Field.{Field}
use Rattle.k_types.specs.declared.names.Field.TheVariants.{Int, Ref}
use Rattle.k_types.specs.declared.names.Heap.TheVariants.{Kernel, Shared}
use Rattle.k_types.specs.declared.op.Op.{Op}
use Rattle.k_types.specs.declared.op.Op.TheVariants.{New, KNew, SNew, Store, Put, Freeze, Kill}
use Rattle.k_types.specs.declared.event.Event.{Event}
use Rattle.k_types.specs.declared.event.Event.TheVariants.{Done, Ended, Absorbed, Closing}
use Rattle.k_types.specs.declared.event.Fault.{Fault}
use Rattle.k_types.specs.Bounds.{most_fields}
use Rattle.k_types.specs.Names.{name_eq, name_lt}
use Rattle.k_types.specs.Trace.{Trace, kinds_of, segment_of}
use Rattle.k_types.specs.TraceRules.{AreOperations, is_spelled}
use Rattle.k_types.specs.State.{Content, Holds, Object, Refers, State, fields_of, fresh, object_at, opening, register}
use Rattle.k_types.specs.Owners.{user}
use Rattle.k_types.specs.Replies.{faults, field_at, first_fault, number_in}
use Rattle.k_types.specs.Updates.{add_share, clear_registers, close, close_scan, count_done, create, end_process, keep_exits, keep_objects, keep_shares, next_name, object_after_write, open_scan, set_phase, set_register, turn_exits, with_object, write, set_max}
use Rattle.k_types.specs.Effects.{after_absorbed, after_closing, after_end_of, after_ended, after_operation, after_put, after_store, effect, effect_unless, step, survives, with_exit_of_store}
use Rattle.k_types.specs.Steps.{IsLegalHistory, run, state_after}
use Rattle.k_types.proofs.Lists.{get_or-set_cases, found_holds}
use Rattle.k_laws.proofs.Rest.{freeze_rest, kill_rest}
use Rattle.k_laws.specs.Fits.{DoesOperationsOf, IsSpelledEvent, NumbersFit}
use Rattle.k_laws.proofs.KnownCounted.{operations_bounded, serials_bounded, spelled_history}
use Rattle.k_laws.proofs.Effects.{linked_objects}

-- each number among the fields has 64 bits
abbrev AreSmall : List Content → Type 0
AreSmall fields = (i : ℕ) → number_in (get_or fields i (Holds 0)) < 2 ^ 64

abbrev HaveSmall : List Object → Type 0
HaveSmall objects = AllByRecursion (λ o. AreSmall o.fields) objects

small_set : (fields : List Content) (i : ℕ) (c : Content) → number_in c < 2 ^ 64 → AreSmall fields → AreSmall (set fields i c)
small_set fields i c small all k = elim (get_or-set_cases fields i k c (Holds 0)) [
  | inl same ↦ subst (λ (x : Content). number_in x < 2 ^ 64) (sym same) (all k)
  | inr here ↦ subst (λ (x : Content). number_in x < 2 ^ 64) (sym here.1) small
]

small_fresh : (kinds : List Field) → AreSmall (map fresh kinds)
small_fresh [] i = omega arith
small_fresh (Ref ∷ kinds) zero = omega arith
small_fresh (Int ∷ kinds) zero = omega arith
small_fresh (kind ∷ kinds) (suc i) = small_fresh kinds i

small_refs : (n : ℕ) → AreSmall (replicate n (Refers None))
small_refs zero i = omega arith
small_refs (suc n) zero = omega arith
small_refs (suc n) (suc i) = small_refs n i

small_written : (x : Name) (i : ℕ) (c : Content) (objects : List Object) → number_in c < 2 ^ 64 → HaveSmall objects → HaveSmall (map (object_after_write x i c) objects)
small_written x i c [] small all = tt
small_written x i c (o ∷ objects) small all = (after (name_eq o.name x), small_written x i c objects small all.1)
  where
    after : (b : Bool) → AreSmall (cond b (record o { fields = set o.fields i c }) o).fields
    after true = small_set o.fields i c small all.0
    after false = all.0

small_kept : (stays : Name → Bool) (objects : List Object) → HaveSmall objects → HaveSmall (filter (λ o. stays o.name) objects)
small_kept stays [] all = tt
small_kept stays (o ∷ objects) all = elim (stays o.name) as (λ b. HaveSmall (cond b (o ∷ filter (λ o. stays o.name) objects) (filter (λ o. stays o.name) objects))) [
  | true ↦ (all.0, small_kept stays objects all.1)
  | false ↦ small_kept stays objects all.1
]

small_placed : (o : Object) (objects : List Object) → AreSmall o.fields → HaveSmall objects → HaveSmall (with_object o objects)
small_placed o [] small all = (small, tt)
small_placed o (x ∷ xs) small all =
    elim (name_lt x.name o.name) as (λ b. HaveSmall (cond b (x ∷ with_object o xs) (o ∷ x ∷ xs))) [
      | true ↦ (all.0, small_placed o xs small all.1)
      | false ↦ (small, all)
    ]

module _ (trace : Trace) where
  stored_small : (st : State) (b : Option Name) (i : ℕ) (v : Option Name) → HaveSmall st.objects → HaveSmall (after_store trace b i v st).objects
  unfolding after_store write
  stored_small st None i v all = all
  stored_small st (Some x) i v all = small_written x i (Refers v) (with_exit_of_store trace x v st).objects (omega arith) (subst HaveSmall (sym (linked_objects trace st x v)) all)

  put_small : (st : State) (b : Option Name) (i n : ℕ) → n < 2 ^ 64 → HaveSmall st.objects → HaveSmall (after_put b i n st).objects
  unfolding after_put write
  put_small st None i n small all = all
  put_small st (Some x) i n small all = small_written x i (Holds n) st.objects small all

  new_small : (st : State) (seg : ℕ) (ty : TypeId) → HaveSmall st.objects → HaveSmall (create seg ty (kinds_of trace ty) st).objects
  unfolding create
  new_small st seg ty all = small_placed (record { name = next_name seg st; ty = Some ty; fields = map fresh (kinds_of trace ty) }) st.objects (small_fresh (kinds_of trace ty)) all

  effect_small : (st : State) (p : ℕ) (op : Op) → IsTrue (is_spelled op) → HaveSmall st.objects → HaveSmall (effect trace p op st).objects
  unfolding effect set_register open_scan add_share set_phase after_end_of end_process clear_registers keep_shares turn_exits set_max
  effect_small st p (New r ty) spelled all = new_small st (segment_of trace (user p)) ty all
  effect_small st p (KNew r ty) spelled all = new_small st (segment_of trace Kernel) ty all
  effect_small st p (SNew r s ty) spelled all = new_small st (segment_of trace (Shared s)) ty all
  effect_small st p (Store base i value) spelled all = stored_small st (register st.registers p base.0) i (register st.registers p value.0) all
  effect_small st p (Put base i number) spelled all =
      put_small st (register st.registers p base.0) i number (ltb-true number (2 ^ 64) (and_parts (nat_lt i most_fields) (nat_lt number (2 ^ 64)) spelled).1) all
  effect_small st p (Freeze s root) spelled all = subst HaveSmall (sym (ap (λ (su : State). su.objects) (freeze_rest st s.0 (register st.registers p root.0)))) all
  effect_small st p (Kill q) spelled all = subst HaveSmall (sym (ap (λ (su : State). su.objects) (kill_rest trace st q.0))) all
  effect_small st p _ spelled all = all

  unless_small : (f : Option Fault) (st : State) (p : ℕ) (op : Op) → IsTrue (is_spelled op) → HaveSmall st.objects → HaveSmall (effect_unless f trace p op st).objects
  unless_small None st p op spelled all = effect_small st p op spelled all
  unless_small (Some f) st p op spelled all = all

  step_small : (st : State) (event : Event) → IsSpelledEvent event → HaveSmall st.objects → HaveSmall (step trace st event).objects
  unfolding step after_operation count_done after_ended after_absorbed after_closing close_scan keep_shares keep_exits keep_objects close set_phase open_scan
  step_small st (Done pid op said) spelled all = unless_small (first_fault (faults trace st pid.0 op)) st pid.0 op spelled all
  step_small st (Ended h a b c d) spelled all = small_kept (survives trace st h) st.objects all
  step_small st (Absorbed s) spelled all = all
  step_small st Closing spelled all = all

  run_small : (st : State) (events : List Event) → AllByRecursion IsSpelledEvent events → HaveSmall st.objects → HaveSmall (run trace st events).objects
  run_small st [] spelled all = all
  run_small st (event ∷ events) spelled all = run_small (step trace st event) events spelled.1 (step_small st event spelled.0 all)

  found_small : (st : State) (x : Name) (i : ℕ) → HaveSmall st.objects → number_in (field_at st x i) < 2 ^ 64
  found_small st x i all = go (object_at st.objects x) refl
    where
      go : (o : Option Object) → object_at st.objects x ≡ o → number_in (get_or (fields_of o) i (Holds 0)) < 2 ^ 64
      go None found = omega arith
      go (Some o) found = found_holds (λ y. AreSmall y.fields) (λ y. name_eq y.name x) st.objects o all found i

  pub history_fits : (history : List Event) → AreOperations trace → IsLegalHistory trace history → DoesOperationsOf trace history → NumbersFit history (state_after trace history)
  history_fits history rules legal does = record {
    spelled = spelled_history trace history rules legal does;
    operations = omega (arith, operations_bounded trace history rules legal does, rules.room);
    serials = λ seg. serials_bounded trace history seg rules legal does;
    numbers = λ x i. found_small (state_after trace history) x i (run_small (opening trace) history (spelled_history trace history rules legal does) (small_refs trace.dir_fields, tt));
  }
