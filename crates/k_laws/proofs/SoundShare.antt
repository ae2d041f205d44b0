-- A sound state stays sound where a shared heap is made, frozen and shared.
use Rattle.std.proofs.Common.{◌≡◌, ℕ, ◌≤◌, ◌⊎◌, ◌==◌, ◌||◌, cond, sym, ap, ◌∙◌, inl, inr, List, set, length-set, IsTrue, subst, nat_le, ◌-◌}
use Rattle.std.proofs.Math.Path.{fun_ext}
use Rattle.k_types.specs.declared.names.Name.{Name}
use Rattle.k_types.specs.declared.names.Heap.{Heap}
use Rattle.k_types.specs.declared.names.Heap.TheVariants.{Kernel}
use Rattle.k_types.specs.declared.names.Phase.TheVariants.{Unmade, Frozen}
use Rattle.k_types.specs.Trace.{Trace, process_count}
use Rattle.k_types.specs.State.{State}
use Rattle.k_types.specs.Owners.{owner_of, shared, bytes_by, charge_by, phase_of, is_absorbed, owner_of_segment, owner_of_process}
use Rattle.k_types.specs.Limits.{limits_in, use_by, max_of}
use Rattle.k_types.specs.Reach.{is_root, is_entered, is_held, is_pinned, has_entry}
use Rattle.k_types.specs.Sound.{AreGuarded, AreExits, IsSound}
use Rattle.k_types.proofs.Lists.{get_or-set_cases}
use Rattle.k_types.specs.declared.names.Phase.{Phase}
use Rattle.k_types.specs.Updates.{set_phase}
use Rattle.k_laws.proofs.Shapes.{declared-phase}
use Rattle.k_laws.specs.Changes.{MayFreeze}

-- which heaps are absorbed stays, where the phase that is set is absorbed as the one before it was
pub absorbed_kept : (phases : List Phase) (s : ℕ) (phase : Phase) → is_absorbed phase ≡ is_absorbed (phase_of phases s) → (q : ℕ) →
    is_absorbed (phase_of (set phases s phase) q) ≡ is_absorbed (phase_of phases q)
absorbed_kept phases s phase same q =
    elim (get_or-set_cases phases s q phase Unmade) [
      | inl e ↦ ap is_absorbed e
      | inr e ↦ ap is_absorbed e.1 ∙ same ∙ ap (λ k. is_absorbed (phase_of phases k)) (sym e.0)
    ]

owner_phase_same : (procs : ℕ) (ended : List ℕ) (phases : List Phase) (s : ℕ) (phase : Phase) → is_absorbed phase ≡ is_absorbed (phase_of phases s) → (seg : ℕ) →
    owner_of_segment procs ended (set phases s phase) seg ≡ owner_of_segment procs ended phases seg
unfolding owner_of_segment
owner_phase_same procs ended phases s phase same seg =
    ap (λ b. cond (seg == 0) Kernel (cond (nat_le seg procs) (owner_of_process ended (seg - 1)) (cond b Kernel (shared (seg - 1 - procs))))) (absorbed_kept phases s phase same (seg - 1 - procs))

-- a phase that changes no owner leaves owners, so all that depends on them, as they were
pub owner_kept : (trace : Trace) (st : State) (s : ℕ) (phase : Phase) → is_absorbed phase ≡ is_absorbed (phase_of st.phases s) → owner_of trace (set_phase s phase st) ≡ owner_of trace st
unfolding set_phase
owner_kept trace st s phase same = fun_ext (owner_phase_same (process_count trace) st.ended st.phases s phase same)

module _ (trace : Trace) (st : State) (s : ℕ) (root : Name) (sound : IsSound trace st) (may : MayFreeze trace st s root) where
  same_owner : owner_of trace (set_phase s (Frozen root) st) ≡ owner_of trace st
  same_owner = owner_kept trace st s (Frozen root) (sym may.stands)

  phase_cases : (q : ℕ) → (phase_of (set st.phases s (Frozen root)) q ≡ phase_of st.phases q) ⊎ ((q ≡ s) × (phase_of (set st.phases s (Frozen root)) q ≡ Frozen root))
  phase_cases q = get_or-set_cases st.phases s q (Frozen root) Unmade

  owner_at : (seg : ℕ) → owner_of trace (set_phase s (Frozen root) st) seg ≡ owner_of trace st seg
  owner_at seg = ap (λ own. own seg) same_owner

  root_before : (h : Heap) (n : Name) → IsTrue (is_root trace (set_phase s (Frozen root) st) h n) → IsTrue (is_root trace st h n)
  unfolding is_entered is_held set_phase
  root_before h n t = subst (λ own. IsTrue ((has_entry own st.exits n || is_pinned (process_count trace) own st.registers n) || is_held st h n)) same_owner t

  pub freeze_sound : IsSound trace (set_phase s (Frozen root) st)
  unfolding set_phase
  freeze_sound = record {
    shape = record {
      sized = record { made = sound.shape.sized.made; registers = sound.shape.sized.registers; each = sound.shape.sized.each; done = sound.shape.sized.done; phases = length-set st.phases s _ ∙ sound.shape.sized.phases; maxima = sound.shape.sized.maxima };
      distinct_exits = sound.shape.distinct_exits;
      distinct_shares = sound.shape.distinct_shares;
      distinct_scans = sound.shape.distinct_scans;
      placed = sound.shape.placed;
      typed = sound.shape.typed;
      declared = declared-phase trace st.ended st.phases s (Frozen root) (λ q e. absurd (cc e)) sound.shape.declared;
      known = sound.shape.known;
    };
    names = record {
      ordered = sound.names.ordered;
      numbered = sound.names.numbered;
    };
    no_dangling = record {
      directory = sound.no_dangling.directory;
      fields = sound.no_dangling.fields;
      registers = sound.no_dangling.registers;
      exits = sound.no_dangling.exits;
      scans = sound.no_dangling.scans;
      frozen = λ q r e. elim (phase_cases q) [
        | inl same ↦ sound.no_dangling.frozen q r (sym same ∙ e)
        | inr here ↦ let is : root ≡ r = cc (here.1, e) in rw (← is) may.there
      ];
    };
    guarded = subst (λ own. AreGuarded own st.objects st.exits) (sym same_owner) sound.guarded;
    exits = subst (λ own. AreExits own st.exits) (sym same_owner) sound.exits;
    gone = record {
      registers = sound.gone.registers;
      shares = sound.gone.shares;
      scans = sound.gone.scans;
      exits = sound.gone.exits;
      absorbed_shares = λ q e. elim (phase_cases q) [ inl same ↦ sound.gone.absorbed_shares q (sym same ∙ e) | inr here ↦ absurd (cc (here.1, e)) ];
      absorbed_exits = λ q n e. elim (phase_cases q) [ inl same ↦ sound.gone.absorbed_exits q n (sym same ∙ e) | inr here ↦ absurd (cc (here.1, e)) ];
    };
    phases = record {
      unmade_shares = λ q e. elim (phase_cases q) [ inl same ↦ sound.phases.unmade_shares q (sym same ∙ e) | inr here ↦ absurd (cc (here.1, e)) ];
      unmade_objects = λ q n e there at. elim (phase_cases q) [
        | inl same ↦ sound.phases.unmade_objects q n (sym same ∙ e) there (sym (owner_at n.seg.0) ∙ at)
        | inr here ↦ absurd (cc (here.1, e))
      ];
      populating = λ q r k e t. elim (phase_cases q) [ inl same ↦ sound.phases.populating q r k (sym same ∙ e) t | inr here ↦ absurd (cc (here.1, e)) ];
      populated = λ q r e lives. elim (phase_cases q) [ inl same ↦ sound.phases.populated q r (sym same ∙ e) lives | inr here ↦ absurd (cc (here.1, e)) ];
      frozen = λ q r e. owner_at r.seg.0 ∙ elim (phase_cases q) [
        | inl same ↦ sound.phases.frozen q r (sym same ∙ e)
        | inr here ↦ let is : root ≡ r = cc (here.1, e) in ap (λ m. owner_of trace st m.seg.0) (sym is) ∙ may.inside ∙ ap shared (sym here.0)
      ];
    };
    uses = λ m known. subst (λ own. use_by trace (limits_in trace st) (charge_by (λ h. bytes_by own h st.objects) st.ended st.shares) m ≤ max_of (limits_in trace st) m) (sym same_owner) (sound.uses m known);
    scans = record {
      own = λ h rs n o t. owner_at n.seg.0 ∙ sound.scans.own h rs n o t;
      recorded = λ h rs n o there at root. sound.scans.recorded h rs n o there (sym (owner_at n.seg.0) ∙ at) (root_before h n root);
      none_shared = sound.scans.none_shared;
    };
  }
