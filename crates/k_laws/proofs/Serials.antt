-- Serials are given once.
use Rattle.std.proofs.Common.{◌≡◌, ℕ, ◌+◌, ◌<◌, true, false, refl, sym, ap, ◌∙◌, inl, inr, List, [], ◌∷◌, ◌++◌, map, Option, Some, None, get_or, subst, arith, le_of_eq, le_trans, IsTrue}
use Rattle.std.proofs.lemmas.Bool.{and_parts, or_cases, false≢true, false_from_ne_true}
use Rattle.k_types.specs.declared.names.Name.{Name}
use Rattle.k_types.specs.declared.names.TypeId.{TypeId}
use Rattle.k_types.specs.declared.op.Op.{Op}
use Rattle.k_types.specs.declared.op.Op.TheVariants.{New, KNew, SNew, Store, Put, Freeze, Kill}
use Rattle.k_types.specs.declared.event.Event.{Event}
use Rattle.k_types.specs.declared.event.Event.TheVariants.{Done, Ended, Absorbed, Closing}
use Rattle.k_types.specs.declared.event.Fault.{Fault}
use Rattle.k_types.specs.declared.names.Heap.TheVariants.{Kernel, Shared}
use Rattle.k_types.specs.Names.{name_eq}
use Rattle.k_types.specs.Trace.{Trace, kinds_of, segment_of}
use Rattle.k_types.specs.State.{State, Refers, Holds, fresh, has, opening, register}
use Rattle.k_types.specs.Owners.{user}
use Rattle.k_types.specs.Replies.{faults, first_fault}
use Rattle.k_types.specs.Updates.{add_share, clear_registers, close, close_scan, count_done, create, end_process, keep_exits, keep_objects, keep_shares, next_name, open_scan, set_phase, set_register, turn_exits, write, set_max}
use Rattle.k_types.specs.Effects.{after_absorbed, after_closing, after_end_of, after_ended, after_new, after_operation, after_put, after_store, effect, effect_unless, step, survives, with_exit_of_store}
use Rattle.k_types.specs.Steps.{run, state_after}
use Rattle.k_types.proofs.NameTests.{name_eq-true}
use Rattle.k_types.proofs.Lists.{get_or-set_cases}
use Rattle.k_types.proofs.Objects.{has-kept, has-placed, has-written}
use Rattle.k_laws.proofs.Rest.{freeze_rest, put_rest, store_rest, kill_rest}
use Rattle.k_laws.proofs.Histories.{run_append}
use Rattle.k_laws.specs.Kept.{GivesSerials, IsSpent}
use Rattle.k_laws.proofs.Effects.{linked_objects}

same_gives : (st after : State) → after.made ≡ st.made → ((n : Name) → IsTrue (has after.objects n) → IsTrue (has st.objects n)) → GivesSerials st after
same_gives st after made back = record {
  made = λ seg. le_of_eq (ap (λ given. get_or given seg 0) (sym made));
  fresh = λ n new there. absurd (false≢true (sym new ∙ back n there));
}

new_gives : (trace : Trace) (st : State) (p r seg : ℕ) (ty : TypeId) → GivesSerials st (after_new trace p r seg ty st)
unfolding set_register create
new_gives trace st p r seg ty = record {
  made = λ at. elim (get_or-set_cases st.made seg at (get_or st.made seg 0 + 1) 0) [
    | inl same ↦ le_of_eq (sym same)
    | inr here ↦ let was = ap (λ k. get_or st.made k 0) here.0 in omega (arith, here.1, was)
  ];
  fresh = λ n new there. elim (or_cases (name_eq (next_name seg st) n) (has st.objects n) (sym (has-placed (record { name = next_name seg st; ty = Some ty; fields = map fresh (kinds_of trace ty) }) st.objects n) ∙ there)) [
    | inl same ↦ subst (λ (m : Name). get_or st.made m.seg.0 0 < m.serial.0) (name_eq-true (next_name seg st) n same) (omega arith)
    | inr before ↦ absurd (false≢true (sym new ∙ before))
  ];
}

module _ (trace : Trace) where
  store_back : (st : State) (b : Option Name) (i : ℕ) (v : Option Name) (n : Name) → IsTrue (has (after_store trace b i v st).objects n) → IsTrue (has st.objects n)
  unfolding after_store write
  store_back st None i v n there = there
  store_back st (Some x) i v n there =
      ap (λ objects. has objects n) (sym (linked_objects trace st x v)) ∙ sym (has-written x i (Refers v) (with_exit_of_store trace x v st).objects n) ∙ there

  put_back : (st : State) (b : Option Name) (i number : ℕ) (n : Name) → IsTrue (has (after_put b i number st).objects n) → IsTrue (has st.objects n)
  unfolding after_put write
  put_back st None i number n there = there
  put_back st (Some x) i number n there = sym (has-written x i (Holds number) st.objects n) ∙ there

  effect_gives : (st : State) (p : ℕ) (op : Op) → GivesSerials st (effect trace p op st)
  unfolding effect set_register open_scan add_share set_phase after_end_of end_process clear_registers keep_shares turn_exits set_max
  effect_gives st p (New r ty) = new_gives trace st p r.0 (segment_of trace (user p)) ty
  effect_gives st p (KNew r ty) = new_gives trace st p r.0 (segment_of trace Kernel) ty
  effect_gives st p (SNew r s ty) = new_gives trace st p r.0 (segment_of trace (Shared s)) ty
  effect_gives st p (Store base i value) =
      same_gives st _ (ap (λ (s : State). s.made) (store_rest trace st (register st.registers p base.0) i (register st.registers p value.0)))
      (store_back st (register st.registers p base.0) i (register st.registers p value.0))
  effect_gives st p (Put base i number) =
      same_gives st _ (ap (λ (s : State). s.made) (put_rest st (register st.registers p base.0) i number)) (put_back st (register st.registers p base.0) i number)
  effect_gives st p (Freeze s root) =
      let rest = freeze_rest st s.0 (register st.registers p root.0) in
      same_gives st _ (ap (λ (s : State). s.made) rest) (λ n t. ap (λ (s : State). has s.objects n) (sym rest) ∙ t)
  effect_gives st p (Kill q) =
      let rest = kill_rest trace st q.0 in
      same_gives st _ (ap (λ (s : State). s.made) rest) (λ n t. ap (λ (s : State). has s.objects n) (sym rest) ∙ t)
  effect_gives st p _ = same_gives st _ refl (λ n t. t)

  unless_gives : (f : Option Fault) (st : State) (p : ℕ) (op : Op) → GivesSerials st (effect_unless f trace p op st)
  unless_gives None st p op = effect_gives st p op
  unless_gives (Some f) st p op = same_gives st st refl (λ n t. t)

  pub step_gives : (st : State) (event : Event) → GivesSerials st (step trace st event)
  unfolding step after_operation count_done after_ended after_absorbed after_closing close_scan keep_shares keep_exits keep_objects close set_phase open_scan
  step_gives st (Done pid op said) = let gives = unless_gives (first_fault (faults trace st pid.0 op)) st pid.0 op in record { made = gives.made; fresh = gives.fresh }
  step_gives st (Ended h a b c d) = same_gives st _ refl (λ n t. (and_parts (has st.objects n) (survives trace st h n) (sym (has-kept (survives trace st h) st.objects n) ∙ t)).0)
  step_gives st (Absorbed s) = same_gives st _ refl (λ n t. t)
  step_gives st Closing = same_gives st _ refl (λ n t. t)

  spent_after : (st : State) (events : List Event) (n : Name) → IsSpent st n → IsSpent (run trace st events) n
  spent_after st [] n spent = spent
  spent_after st (event ∷ events) n spent =
      let gives = step_gives st event in
      spent_after (step trace st event) events n (record {
        given = le_trans spent.given (gives.made n.seg.0);
        gone = false_from_ne_true _ (λ there. let new = gives.fresh n spent.gone there in absurd (omega (arith, new, spent.given)));
      })

  pub stays_spent : (known rest : List Event) (n : Name) → IsSpent (state_after trace known) n → IsSpent (state_after trace (known ++ rest)) n
  stays_spent known rest n spent = subst (λ st. IsSpent st n) (sym (run_append trace (opening trace) known rest)) (spent_after (state_after trace known) rest n spent)
