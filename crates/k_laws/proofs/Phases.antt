-- How the phase of a shared heap changes.
use Rattle.std.proofs.Common.{◌≡◌, ℕ, ◌==◌, not, false, refl, sym, ap, ◌∙◌, inl, inr, List, [], ◌∷◌, Option, Some, None, eq-eqb, IsTrue}
use Rattle.std.specs.List.{list_any}
use Rattle.std.proofs.lemmas.Bool.{not-false, or_left}
use Rattle.k_types.specs.declared.names.Pid.{Pid}
use Rattle.k_types.specs.declared.names.Name.{Name}
use Rattle.k_types.specs.declared.names.Heap.{Heap}
use Rattle.k_types.specs.declared.names.Phase.{Phase}
use Rattle.k_types.specs.declared.names.Phase.TheVariants.{Unmade, Populating, Frozen, Absorbed}
use Rattle.k_types.specs.declared.op.Op.{Op}
use Rattle.k_types.specs.declared.op.Op.TheVariants.{Store, Put, Share, Freeze, Kill}
use Rattle.k_types.specs.declared.event.Fault.{Fault}
use Rattle.k_types.specs.declared.event.Fault.TheVariants.{Taken as TakenFault}
use Rattle.k_types.specs.Trace.{Trace}
use Rattle.k_types.specs.State.{State, register}
use Rattle.k_types.specs.Owners.{phase_of}
use Rattle.k_types.specs.Replies.{first_fault, faults, is_unmade}
use Rattle.k_types.specs.Updates.{count_done, set_register, create, open_scan, set_phase, add_share, keep_objects, keep_exits, keep_shares, close_scan, clear_registers, end_process, turn_exits, close, set_max}
use Rattle.k_types.specs.Effects.{effect, effect_unless, after_operation, after_store, after_put, after_freeze, after_end_of, after_ended, after_absorbed, after_closing}
use Rattle.k_laws.specs.Counts.{is_share_of}
use Rattle.k_types.proofs.Lists.{get_or-set_cases}
use Rattle.k_laws.proofs.FrameSteps.{none_on}
use Rattle.k_laws.proofs.SoundEffects.{is_unmade_so}
use Rattle.k_laws.proofs.Rest.{store_rest, put_rest, kill_rest}

-- the shared heap's phase stays, or the operation takes the unmade heap, or it is frozen or absorbed now
pub data Phased (s : ℕ) (before after : Phase) (ops : List Op) (p : ℕ) : Type 0 where
  Stays : after ≡ before → Phased s before after ops p
  Taken : (q : Pid) → q.0 ≡ p → before ≡ Unmade → after ≡ Populating q → IsTrue (list_any (is_share_of s) ops) → Phased s before after ops p
  IsFrozen : (root : Name) → after ≡ Frozen root → Phased s before after ops p
  IsAbsorbed : after ≡ Absorbed → Phased s before after ops p

module _ (trace : Trace) where
  pub store_phases : (st : State) (x : Option Name) (i : ℕ) (v : Option Name) → (after_store trace x i v st).phases ≡ st.phases
  store_phases st x i v = ap (λ (s : State). s.phases) (store_rest trace st x i v)

  pub put_phases : (st : State) (x : Option Name) (i n : ℕ) → (after_put x i n st).phases ≡ st.phases
  put_phases st x i n = ap (λ (s : State). s.phases) (put_rest st x i n)

  freeze_phases : (st : State) (t : ℕ) (root : Option Name) (s p : ℕ) (ops : List Op) → Phased s (phase_of st.phases s) (phase_of (after_freeze t root st).phases s) ops p
  unfolding after_freeze set_phase
  freeze_phases st t None s p ops = Stays refl
  freeze_phases st t (Some root) s p ops = elim (get_or-set_cases st.phases t s (Frozen root) Unmade) [ inl same ↦ Stays same | inr here ↦ IsFrozen root here.1 ]

  effect_phases : (st : State) (p : ℕ) (op : Op) (s : ℕ) → first_fault (faults trace st p op) ≡ None → Phased s (phase_of st.phases s) (phase_of (effect trace p op st).phases s) (op ∷ []) p
  unfolding effect set_register create open_scan add_share set_phase after_end_of end_process clear_registers keep_shares turn_exits faults set_max
  effect_phases st p (Store base i value) s fine = Stays (ap (λ phases. phase_of phases s) (store_phases st (register st.registers p base.0) i (register st.registers p value.0)))
  effect_phases st p (Put base i number) s fine = Stays (ap (λ phases. phase_of phases s) (put_phases st (register st.registers p base.0) i number))
  effect_phases st p (Share t) s fine =
      elim (get_or-set_cases st.phases t.0 s (Populating (record { 0 = p })) Unmade) [
        | inl same ↦ Stays same
        | inr here ↦
            let unmade = is_unmade_so (phase_of st.phases t.0) (not-false _ (none_on (not (is_unmade (phase_of st.phases t.0))) (TakenFault t) [] fine).0) in
            Taken (record { 0 = p }) refl (ap (phase_of st.phases) here.0 ∙ unmade) here.1 (or_left (t.0 == s) false (eq-eqb t.0 s (sym here.0)))
      ]
  effect_phases st p (Freeze t root) s fine = freeze_phases st t.0 (register st.registers p root.0) s p (Freeze t root ∷ [])
  effect_phases st p (Kill q) s fine = Stays (ap (λ (su : State). phase_of su.phases s) (kill_rest trace st q.0))
  effect_phases st p _ s fine = Stays refl

  unless_phases : (f : Option Fault) (st : State) (p : ℕ) (op : Op) (s : ℕ) → first_fault (faults trace st p op) ≡ f → Phased s (phase_of st.phases s) (phase_of (effect_unless f trace p op st).phases s) (op ∷ []) p
  unless_phases None st p op s e = effect_phases st p op s e
  unless_phases (Some f) st p op s e = Stays refl

  pub done_phases : (st : State) (p : ℕ) (op : Op) (s : ℕ) → Phased s (phase_of st.phases s) (phase_of (after_operation trace p op st).phases s) (op ∷ []) p
  unfolding after_operation count_done
  done_phases st p op s = unless_phases (first_fault (faults trace st p op)) st p op s refl

  pub absorbed_phases : (st : State) (t : ℕ) (s p : ℕ) (ops : List Op) → Phased s (phase_of st.phases s) (phase_of (after_absorbed trace t st).phases s) ops p
  unfolding after_absorbed set_phase keep_exits
  absorbed_phases st t s p ops = elim (get_or-set_cases st.phases t s Absorbed Unmade) [ inl same ↦ Stays same | inr here ↦ IsAbsorbed here.1 ]

  pub ended_phases : (st : State) (h : Heap) → (after_ended trace h st).phases ≡ st.phases
  unfolding after_ended close_scan keep_shares keep_exits keep_objects
  ended_phases st h = refl

  pub closing_phases : (st : State) → (after_closing trace st).phases ≡ st.phases
  unfolding after_closing close open_scan
  closing_phases st = refl
