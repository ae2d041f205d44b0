-- Who has ended stays ended, and a segment's owner stays or becomes the kernel.
use Rattle.std.proofs.Common.{◌≡◌, ℕ, ◌-◌, ◌==◌, nat_le, not, true, false, cond, refl, sym, ap, ◌∙◌, inl, inr, ◌⊎◌, List, [], ◌∷◌, ◌++◌, Option, Some, None, set, IsTrue, IsFalse}
use Rattle.std.proofs.lemmas.Bool.{false≢true, false_from_ne_true, not-false}
use Rattle.k_types.specs.declared.names.Name.{Name}
use Rattle.k_types.specs.declared.names.Heap.TheVariants.{Kernel}
use Rattle.k_types.specs.declared.names.Phase.{Phase}
use Rattle.k_types.specs.declared.names.Phase.TheVariants.{Unmade, Populating, Frozen, Absorbed}
use Rattle.k_types.specs.declared.op.Op.{Op}
use Rattle.k_types.specs.declared.op.Op.TheVariants.{Store, Put, Share, Freeze, Kill}
use Rattle.k_types.specs.declared.event.Event.{Event}
use Rattle.k_types.specs.declared.event.Event.TheVariants.{Done, Ended, Absorbed as AbsorbedEvent, Closing}
use Rattle.k_types.specs.declared.event.Fault.{Fault}
use Rattle.k_types.specs.declared.event.Fault.TheVariants.{NotPopulating, Segv, Taken}
use Rattle.k_types.specs.Names.{among, heap_eq}
use Rattle.k_types.specs.Trace.{Trace, process_count}
use Rattle.k_types.specs.State.{State, opening, register}
use Rattle.k_types.specs.Owners.{is_absorbed, owner_of, owner_of_process, owner_of_segment, owner_of_shared, phase_of, shared, user}
use Rattle.k_types.specs.Replies.{at_base, fault_where, faults, first_fault, is_populating, is_unmade}
use Rattle.k_types.specs.Updates.{add_share, clear_registers, close, close_scan, count_done, create, end_process, keep_exits, keep_objects, keep_shares, open_scan, set_phase, set_register, turn_exits, set_max}
use Rattle.k_types.specs.Effects.{after_absorbed, after_closing, after_end_of, after_ended, after_freeze, after_operation, effect, effect_unless, step}
use Rattle.k_types.specs.Steps.{run, state_after}
use Rattle.k_laws.proofs.FrameSteps.{none_on}
use Rattle.k_types.proofs.Lists.{get_or-set_cases}
use Rattle.k_laws.proofs.Rest.{put_rest, store_rest, kill_rest}
use Rattle.k_laws.proofs.Histories.{run_append}
use Rattle.k_laws.proofs.SoundEffects.{is_populating_by, is_unmade_so}
use Rattle.k_laws.specs.Kept.{KeepsOrGives}
use Rattle.k_laws.proofs.Effects.{unless_ended}

module _ (trace : Trace) where
  pub step_ended : (st : State) (event : Event) (q : ℕ) → IsTrue (among q st.ended) → IsTrue (among q (step trace st event).ended)
  unfolding step after_operation count_done after_ended after_absorbed after_closing close_scan keep_shares keep_exits keep_objects close set_phase open_scan
  step_ended st (Done pid op said) q t = unless_ended trace (first_fault (faults trace st pid.0 op)) st pid.0 op q t
  step_ended st (Ended h a b c d) q t = t
  step_ended st (AbsorbedEvent s) q t = t
  step_ended st Closing q t = t

  run_ended : (st : State) (events : List Event) (q : ℕ) → IsTrue (among q st.ended) → IsTrue (among q (run trace st events).ended)
  run_ended st [] q t = t
  run_ended st (event ∷ events) q t = run_ended (step trace st event) events q (step_ended st event q t)

  pub stays_ended : (known rest : List Event) (q : ℕ) → IsTrue (among q (state_after trace known).ended) → IsTrue (among q (state_after trace (known ++ rest)).ended)
  stays_ended known rest q t = ap (λ (s : State). among q s.ended) (run_append trace (opening trace) known rest) ∙ run_ended (state_after trace known) rest q t

  -- a phase that is set where the heap isn't absorbed leaves what is absorbed
  set_absorbed : (phases : List Phase) (t : ℕ) (phase : Phase) (s : ℕ) → IsFalse (is_absorbed (phase_of phases t)) → IsTrue (is_absorbed (phase_of phases s)) →
      IsTrue (is_absorbed (phase_of (set phases t phase) s))
  set_absorbed phases t phase s stands gone =
      elim (get_or-set_cases phases t s phase Unmade) [
        | inl same ↦ ap is_absorbed same ∙ gone
        | inr here ↦ absurd (false≢true (sym stands ∙ ap (λ k. is_absorbed (phase_of phases k)) (sym here.0) ∙ gone))
      ]

  freeze_absorbed : (st : State) (p t : ℕ) (b : Option Name) (s : ℕ) →
      first_fault (at_base b (λ x. fault_where (not (heap_eq (owner_of trace st x.seg.0) (shared t))) Segv ∷ fault_where (not (is_populating (phase_of st.phases t) p)) (NotPopulating (record { 0 = t })) ∷ [])) ≡ None →
      IsTrue (is_absorbed (phase_of st.phases s)) → IsTrue (is_absorbed (phase_of (after_freeze t b st).phases s))
  unfolding after_freeze set_phase
  freeze_absorbed st p t None s fine gone = gone
  freeze_absorbed st p t (Some root) s fine gone =
      let inside = none_on (not (heap_eq (owner_of trace st root.seg.0) (shared t))) Segv _ fine in
      let populates = none_on (not (is_populating (phase_of st.phases t) p)) (NotPopulating (record { 0 = t })) [] inside.1 in
      let phase = is_populating_by (phase_of st.phases t) p (not-false _ populates.0) in
      set_absorbed st.phases t (Frozen root) s (ap is_absorbed phase.1) gone

  effect_absorbed : (st : State) (p : ℕ) (op : Op) (s : ℕ) → first_fault (faults trace st p op) ≡ None → IsTrue (is_absorbed (phase_of st.phases s)) → IsTrue (is_absorbed (phase_of (effect trace p op st).phases s))
  unfolding effect set_register create open_scan add_share set_phase after_end_of end_process clear_registers keep_shares turn_exits faults set_max
  effect_absorbed st p (Store base i value) s fine t = ap (λ (s' : State). is_absorbed (phase_of s'.phases s)) (store_rest trace st (register st.registers p base.0) i (register st.registers p value.0)) ∙ t
  effect_absorbed st p (Put base i number) s fine t = ap (λ (s' : State). is_absorbed (phase_of s'.phases s)) (put_rest st (register st.registers p base.0) i number) ∙ t
  effect_absorbed st p (Share u) s fine t =
      set_absorbed st.phases u.0 (Populating (record { 0 = p })) s
      (ap is_absorbed (is_unmade_so (phase_of st.phases u.0) (not-false _ (none_on (not (is_unmade (phase_of st.phases u.0))) (Taken u) [] fine).0))) t
  effect_absorbed st p (Freeze u root) s fine t = freeze_absorbed st p u.0 (register st.registers p root.0) s fine t
  effect_absorbed st p (Kill q) s fine t = ap (λ (s' : State). is_absorbed (phase_of s'.phases s)) (kill_rest trace st q.0) ∙ t
  effect_absorbed st p _ s fine t = t

  unless_absorbed : (f : Option Fault) (st : State) (p : ℕ) (op : Op) (s : ℕ) → first_fault (faults trace st p op) ≡ f → IsTrue (is_absorbed (phase_of st.phases s)) → IsTrue (is_absorbed (phase_of (effect_unless f trace p op st).phases s))
  unless_absorbed None st p op s e t = effect_absorbed st p op s e t
  unless_absorbed (Some f) st p op s e t = t

  step_absorbed : (st : State) (event : Event) (s : ℕ) → IsTrue (is_absorbed (phase_of st.phases s)) → IsTrue (is_absorbed (phase_of (step trace st event).phases s))
  unfolding step after_operation count_done after_ended after_absorbed after_closing close_scan keep_shares keep_exits keep_objects close set_phase open_scan
  step_absorbed st (Done pid op said) s t = unless_absorbed (first_fault (faults trace st pid.0 op)) st pid.0 op s refl t
  step_absorbed st (Ended h a b c d) s t = t
  step_absorbed st (AbsorbedEvent u) s t = elim (get_or-set_cases st.phases u.0 s Absorbed Unmade) [ inl same ↦ ap is_absorbed same ∙ t | inr here ↦ ap is_absorbed here.1 ]
  step_absorbed st Closing s t = t

-- more processes that have ended and more heaps that are absorbed leave an owner, or make it the kernel
owner_grows : (procs : ℕ) (ended ended' : List ℕ) (phases phases' : List Phase) (seg : ℕ) →
    ((q : ℕ) → IsTrue (among q ended) → IsTrue (among q ended')) → ((s : ℕ) → IsTrue (is_absorbed (phase_of phases s)) → IsTrue (is_absorbed (phase_of phases' s))) →
    (owner_of_segment procs ended' phases' seg ≡ owner_of_segment procs ended phases seg) ⊎ (owner_of_segment procs ended' phases' seg ≡ Kernel)
unfolding owner_of_segment
owner_grows procs ended ended' phases phases' seg over gone =
    elim (seg == 0) as (λ b. (cond b Kernel (cond (nat_le seg procs) (owner_of_process ended' (seg - 1)) (owner_of_shared phases' (seg - 1 - procs)))
    ≡ cond b Kernel (cond (nat_le seg procs) (owner_of_process ended (seg - 1)) (owner_of_shared phases (seg - 1 - procs))))
    ⊎ (cond b Kernel (cond (nat_le seg procs) (owner_of_process ended' (seg - 1)) (owner_of_shared phases' (seg - 1 - procs))) ≡ Kernel)) [
      | true ↦ inl refl
      | false ↦
          elim (nat_le seg procs) as (λ b. (cond b (owner_of_process ended' (seg - 1)) (owner_of_shared phases' (seg - 1 - procs)) ≡ cond b (owner_of_process ended (seg - 1)) (owner_of_shared phases (seg - 1 - procs)))
          ⊎ (cond b (owner_of_process ended' (seg - 1)) (owner_of_shared phases' (seg - 1 - procs)) ≡ Kernel)) [
            | true ↦ of_process (seg - 1)
            | false ↦ of_shared (seg - 1 - procs)
          ]
    ]
  where
    of_process : (q : ℕ) → (owner_of_process ended' q ≡ owner_of_process ended q) ⊎ (owner_of_process ended' q ≡ Kernel)
    of_process q = elim (among q ended') as (λ b. among q ended' ≡ b → (cond b Kernel (user q) ≡ owner_of_process ended q) ⊎ (cond b Kernel (user q) ≡ Kernel)) [
      | true ↦ λ e. inr refl
      | false ↦ λ e. inl (sym (ap (λ b. cond b Kernel (user q)) (false_from_ne_true (among q ended) (λ t. false≢true (sym e ∙ over q t)))))
    ] refl

    of_shared : (s : ℕ) → (owner_of_shared phases' s ≡ owner_of_shared phases s) ⊎ (owner_of_shared phases' s ≡ Kernel)
    of_shared s = elim (is_absorbed (phase_of phases' s)) as (λ b. is_absorbed (phase_of phases' s) ≡ b → (cond b Kernel (shared s) ≡ owner_of_shared phases s) ⊎ (cond b Kernel (shared s) ≡ Kernel)) [
      | true ↦ λ e. inr refl
      | false ↦ λ e. inl (sym (ap (λ b. cond b Kernel (shared s)) (false_from_ne_true (is_absorbed (phase_of phases s)) (λ t. false≢true (sym e ∙ gone s t)))))
    ] refl

pub owner_after : (trace : Trace) (st : State) (event : Event) (seg : ℕ) → KeepsOrGives trace st (step trace st event) seg
owner_after trace st event seg =
    owner_grows (process_count trace) st.ended (step trace st event).ended st.phases (step trace st event).phases seg (step_ended trace st event) (step_absorbed trace st event)

kernel_after : (trace : Trace) (st : State) (events : List Event) (seg : ℕ) → owner_of trace st seg ≡ Kernel → owner_of trace (run trace st events) seg ≡ Kernel
kernel_after trace st [] seg e = e
kernel_after trace st (event ∷ events) seg e =
    kernel_after trace (step trace st event) events seg (elim (owner_after trace st event seg) [ inl same ↦ same ∙ e | inr now ↦ now ])

pub stays_kernel : (trace : Trace) (known rest : List Event) (seg : ℕ) → owner_of trace (state_after trace known) seg ≡ Kernel → owner_of trace (state_after trace (known ++ rest)) seg ≡ Kernel
stays_kernel trace known rest seg e = ap (λ s. owner_of trace s seg) (run_append trace (opening trace) known rest) ∙ kernel_after trace (state_after trace known) rest seg e
