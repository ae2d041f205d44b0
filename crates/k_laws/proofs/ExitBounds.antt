-- The exit items of a user heap are at most the stores of its process, and those of a shared heap at most the stores of its maker.
use Rattle.std.proofs.Common.{◌≡◌, ℕ, ◌+◌, ◌≤◌, ◌⊎◌, refl, sym, ap, ◌∙◌, inl, inr, List, [], ◌∷◌, ◌++◌, Option, Some, None, arith, eqb-true, eq-eqb, IsTrue, IsFalse, le_refl, zero-le}
use Rattle.std.proofs.lemmas.Bool.{cases_Bool, not-false}
use Rattle.k_types.specs.declared.names.Name.{Name}
use Rattle.k_types.specs.declared.names.Pid.{Pid}
use Rattle.k_types.specs.declared.names.Reg.{Reg}
use Rattle.k_types.specs.declared.names.Heap.{Heap}
use Rattle.k_types.specs.declared.names.Heap.TheVariants.{Kernel}
use Rattle.k_types.specs.declared.op.Op.{Op}
use Rattle.k_types.specs.declared.op.Op.TheVariants.{Store}
use Rattle.k_types.specs.declared.event.Fault.{Fault}
use Rattle.k_types.specs.declared.event.Fault.TheVariants.{Foreign, NoField, WrongKind, Frozen as FrozenFault}
use Rattle.k_types.specs.declared.event.Reply.{Reply}
use Rattle.k_types.specs.declared.event.Event.{Event}
use Rattle.k_types.specs.declared.event.Event.TheVariants.{Done, Ended, Absorbed as AbsorbedEvent, Closing}
use Rattle.k_types.specs.Names.{heap_eq}
use Rattle.k_types.specs.Trace.{Trace}
use Rattle.k_types.specs.State.{State, register, in_registers}
use Rattle.k_types.specs.Owners.{owner_of, user}
use Rattle.k_types.specs.Replies.{first_fault, faults, at_base, store_faults, access_faults, is_foreign, sharer_fault, is_frozen_heap}
use Rattle.k_types.specs.Updates.{count_done, keep_objects, keep_exits, keep_shares, close_scan, set_phase, open_scan, close}
use Rattle.k_types.specs.Effects.{step, effect_unless, after_operation, after_ended, after_absorbed, after_closing, exit_stays, stays_after_absorb}
use Rattle.k_types.specs.Steps.{IsPossible, IsLegalHistory, state_after, done_by}
use Rattle.k_laws.specs.Counts.{one_if, exit_count, is_store, stores_in, stores_by}
use Rattle.k_laws.proofs.Counting.{total_fewer, one_if_low}
use Rattle.k_laws.proofs.ExitCounts.{weight, writes_to, stores_to, effect_exits}
use Rattle.k_types.proofs.NameTests.{heap_eq-true}
use Rattle.k_laws.proofs.FrameSteps.{none_on, none_first}
use Rattle.k_laws.proofs.Histories.{history_induction, state_next, done_append}
use Rattle.k_laws.proofs.SoundStore.{register_holds}
use Rattle.k_types.proofs.Sums.{total_append}

-- a store into an object of the heap, which the store's tests let pass
pub record StoresInto (trace : Trace) (st : State) (h : Heap) (pid : Pid) (op : Op) : Type 0 where
  pub store : IsTrue (is_store op)
  pub base : Name
  pub own : owner_of trace st base.seg.0 ≡ h
  pub held : IsTrue (in_registers st.registers pid.0 base)
  pub foreign : IsFalse (is_foreign h pid.0)
  pub shares : sharer_fault st h pid.0 ≡ None
  pub thawed : IsFalse (is_frozen_heap st h)

module _ (trace : Trace) (st : State) (h : Heap) (apart : IsFalse (heap_eq Kernel h)) where
  store_cases : (pid : Pid) (base value : Reg) (i : ℕ) → first_fault (faults trace st pid.0 (Store base i value)) ≡ None →
      (stores_to trace st h pid.0 (Store base i value) ≡ 0) ⊎ StoresInto trace st h pid (Store base i value)
  unfolding faults access_faults
  store_cases pid base value i fine = go (register st.registers pid.0 base.0) refl fine
    where
      go : (b : Option Name) → register st.registers pid.0 base.0 ≡ b → first_fault (at_base b (store_faults trace st pid.0 i (register st.registers pid.0 value.0))) ≡ None →
          (writes_to trace st h b ≡ 0) ⊎ StoresInto trace st h pid (Store base i value)
      go None at e = inl refl
      go (Some x) at e =
          elim (cases_Bool (heap_eq (owner_of trace st x.seg.0) h)) [
            | inr other ↦ inl (ap one_if other)
            | inl same ↦
                let is = heap_eq-true (owner_of trace st x.seg.0) h same in
                let foreign = none_on (is_foreign (owner_of trace st x.seg.0) pid.0) Foreign _ e in
                let sharer = none_first (sharer_fault st (owner_of trace st x.seg.0) pid.0) _ foreign.1 in
                let field = none_on _ NoField _ sharer.1 in
                let kind = none_on _ WrongKind _ field.1 in
                let frozen = none_on (is_frozen_heap st (owner_of trace st x.seg.0)) FrozenFault _ kind.1 in
                inr (record {
                  store = refl;
                  base = x;
                  own = is;
                  held = register_holds st.registers pid.0 base.0 x at;
                  foreign = ap (λ k. is_foreign k pid.0) (sym is) ∙ foreign.0;
                  shares = ap (λ k. sharer_fault st k pid.0) (sym is) ∙ sharer.0;
                  thawed = ap (is_frozen_heap st) (sym is) ∙ frozen.0;
                })
          ]

  op_cases : (pid : Pid) (op : Op) → first_fault (faults trace st pid.0 op) ≡ None → (stores_to trace st h pid.0 op ≡ 0) ⊎ StoresInto trace st h pid op
  op_cases pid (Store base i value) fine = store_cases pid base value i fine
  op_cases pid _ fine = inl refl

  stores_low : (p : ℕ) (op : Op) → stores_to trace st h p op ≤ 1
  stores_low p (Store base i value) = go (register st.registers p base.0)
    where
      go : (b : Option Name) → writes_to trace st h b ≤ 1
      go None = zero-le
      go (Some x) = one_if_low (heap_eq (owner_of trace st x.seg.0) h)
  stores_low p _ = zero-le

  -- an operation adds no exit item of the heap, or it is a store into one of its objects and adds at most one
  pub done_cases : (pid : Pid) (op : Op) → (exit_count (after_operation trace pid.0 op st).exits h ≤ exit_count st.exits h)
      ⊎ (StoresInto trace st h pid op × (exit_count (after_operation trace pid.0 op st).exits h ≤ exit_count st.exits h + 1))
  unfolding after_operation count_done
  done_cases pid op = go (first_fault (faults trace st pid.0 op)) refl
    where
      go : (f : Option Fault) → first_fault (faults trace st pid.0 op) ≡ f → (exit_count (effect_unless f trace pid.0 op st).exits h ≤ exit_count st.exits h)
          ⊎ (StoresInto trace st h pid op × (exit_count (effect_unless f trace pid.0 op st).exits h ≤ exit_count st.exits h + 1))
      go (Some f) e = inl (le_refl (exit_count st.exits h))
      go None e =
          let bound = effect_exits trace st h pid.0 op apart in
          elim (op_cases pid op e) [
            | inl none ↦ inl (omega arith)
            | inr into ↦ inr (into, (omega (arith, stores_low pid.0 op)))
          ]

  pub ended_fewer : (g : Heap) → exit_count (after_ended trace g st).exits h ≤ exit_count st.exits h
  unfolding after_ended close_scan keep_shares keep_exits keep_objects
  ended_fewer g = total_fewer (weight h) (exit_stays trace st g) st.exits

  pub absorbed_fewer : (s : ℕ) → exit_count (after_absorbed trace s st).exits h ≤ exit_count st.exits h
  unfolding after_absorbed set_phase keep_exits
  absorbed_fewer s = total_fewer (weight h) (stays_after_absorb trace st s) st.exits

  pub closing_fewer : exit_count (after_closing trace st).exits h ≤ exit_count st.exits h
  unfolding after_closing close open_scan
  closing_fewer = le_refl (exit_count st.exits h)

-- one more event, seen by a process's stores
pub stores_more : (p : ℕ) (history : List Event) (event : Event) → stores_by p (history ++ event ∷ []) ≡ stores_by p history + stores_in (done_by p (event ∷ []))
stores_more p history event =
    ap stores_in (done_append p history (event ∷ [])) ∙ total_append (λ op. one_if (is_store op)) (done_by p history) (done_by p (event ∷ []))

pub own_store : (pid : Pid) (p : ℕ) (op : Op) (said : Reply) → pid.0 ≡ p → IsTrue (is_store op) → stores_in (done_by p (Done pid op said ∷ [])) ≡ 1
own_store pid p op said same store = rw (eq-eqb pid.0 p same, store) refl

module _ (trace : Trace) where
  -- the bound on a user heap
  UserBound : ℕ → List Event → Type 0
  UserBound p history = exit_count (state_after trace history).exits (user p) ≤ stores_by p history

  user_next : (p : ℕ) (history : List Event) (event : Event) → IsLegalHistory trace history → IsPossible trace (state_after trace history) event → UserBound p history → UserBound p (history ++ event ∷ [])
  unfolding UserBound step
  user_next p history event legal may bound =
      rw (state_next trace history event, stores_more p history event)
      (go event)
    where
      go : (event : Event) → exit_count (step trace (state_after trace history) event).exits (user p) ≤ stores_by p history + stores_in (done_by p (event ∷ []))
      go (Done pid op said) = elim (done_cases trace (state_after trace history) (user p) refl pid op) [
        | inl less ↦ omega (arith, less, bound)
        | inr into ↦ let more = own_store pid p op said (sym (eqb-true p pid.0 (not-false _ into.0.foreign))) into.0.store in omega (arith, into.1, bound, more)
      ]
      go (Ended h a b c d) = omega (arith, ended_fewer trace (state_after trace history) (user p) refl h, bound)
      go (AbsorbedEvent s) = omega (arith, absorbed_fewer trace (state_after trace history) (user p) refl s.0, bound)
      go Closing = omega (arith, closing_fewer trace (state_after trace history) (user p) refl, bound)

  pub user_exits : (p : ℕ) (history : List Event) → IsLegalHistory trace history → exit_count (state_after trace history).exits (user p) ≤ stores_by p history
  unfolding UserBound
  user_exits p history legal = history_induction trace (UserBound p) zero-le (user_next p) history legal
