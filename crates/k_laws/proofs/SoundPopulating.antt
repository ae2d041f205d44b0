-- A sound state stays sound where a process takes a shared heap to populate it.
use Rattle.std.proofs.Common.{◌≡◌, ℕ, ◌*◌, ◌<◌, ◌≤◌, ◌⊎◌, ◌||◌, ◌==◌, sym, ap, ap₂, ◌∙◌, inl, inr, [], ◌∷◌, ◌++◌, length, set, length-set, get_or-set_same, arith, IsTrue, IsFalse, subst, le_trans}
use Rattle.std.proofs.lemmas.Bool.{false≢true, false_from_ne_true}
use Rattle.k_types.specs.declared.names.Name.{Name}
use Rattle.k_types.specs.declared.names.Heap.{Heap}
use Rattle.k_types.specs.declared.names.Pid.{Pid}
use Rattle.k_types.specs.declared.names.Phase.{Phase}
use Rattle.k_types.specs.declared.names.Phase.TheVariants.{Unmade, Populating}
use Rattle.k_types.specs.Names.{among}
use Rattle.k_types.specs.Trace.{Trace, process_count}
use Rattle.k_types.specs.State.{State, has_share}
use Rattle.k_types.specs.Owners.{owner_of, shared, bytes_by, bytes_of, charge_of, charge_by, phase_of, is_absorbed}
use Rattle.k_types.specs.Limits.{limits_in, use_by, max_of}
use Rattle.k_types.specs.Reach.{is_root, is_entered, is_held, is_pinned, has_entry}
use Rattle.k_types.specs.Updates.{set_phase}
use Rattle.k_types.specs.Sound.{IsSound, AreGuarded, AreExits}
use Rattle.k_types.proofs.Lists.{get_or-set_cases}
use Rattle.k_types.proofs.Sums.{bit}
use Rattle.k_laws.proofs.Shapes.{declared-phase}
use Rattle.k_laws.proofs.SoundShare.{owner_kept}
use Rattle.k_laws.proofs.SoundSharing.{sharing, share_cases, share_kept, share_there, sharer_cases, distinct_shares-push, bytes_none}
use Rattle.k_laws.proofs.Raised.{charge_sharing}
use Rattle.k_laws.proofs.Uses.{use_by_less}
use Rattle.k_types.proofs.Shares.{sharer_of}

module _ (trace : Trace) (st : State) (pid : Pid) (s : ℕ) (sound : IsSound trace st) (known : pid.0 < process_count trace) (lives : IsFalse (among pid.0 st.ended))
    (inside : s < trace.shared_heaps) (unmade : phase_of st.phases s ≡ Unmade) where
  abbrev pub p : ℕ
  p = pid.0

  abbrev pub phase : Phase
  phase = Populating pid

  same_owner : owner_of trace (set_phase s phase st) ≡ owner_of trace st
  same_owner = owner_kept trace st s (Populating pid) (sym (ap is_absorbed unmade))

  phase_cases : (q : ℕ) → (phase_of (set st.phases s phase) q ≡ phase_of st.phases q) ⊎ ((q ≡ s) × (phase_of (set st.phases s phase) q ≡ Populating pid))
  phase_cases q = get_or-set_cases st.phases s q (Populating pid) Unmade

  phase_here : phase_of (set st.phases s phase) s ≡ Populating pid
  phase_here = get_or-set_same st.phases s (Populating pid) Unmade (rw sound.shape.sized.phases inside)

  owner_at : (seg : ℕ) → owner_of trace (set_phase s phase st) seg ≡ owner_of trace st seg
  owner_at seg = ap (λ own. own seg) same_owner

  pub no_share : (q : ℕ) → IsFalse (has_share st.shares q s)
  no_share q = false_from_ne_true _ (λ t. false≢true (sym (sound.phases.unmade_shares s unmade) ∙ sharer_of st.shares q s t))

  cases : (q t : ℕ) → IsTrue (has_share (st.shares ++ record { process = p; heap = s } ∷ []) q t) → IsTrue (has_share st.shares q t) ⊎ ((q ≡ p) × (t ≡ s))
  cases q t e = share_cases st.shares p s q t e

  root_before : (h : Heap) (n : Name) → IsTrue (is_root trace (sharing (set_phase s phase st) p s) h n) → IsTrue (is_root trace st h n)
  unfolding is_entered is_held set_phase
  root_before h n t = subst (λ own. IsTrue ((has_entry own st.exits n || is_pinned (process_count trace) own st.registers n) || is_held st h n)) same_owner t

  uses_fit : (m : ℕ) → m < length trace.limits → use_by trace (limits_in trace st) (charge_by (bytes_of trace (set_phase s phase st)) st.ended (st.shares ++ record { process = p; heap = s } ∷ [])) m ≤ max_of (limits_in trace st) m
  unfolding set_phase
  uses_fit m inside =
      subst (λ own. use_by trace (limits_in trace st) (charge_by (λ h. bytes_by own h st.objects) st.ended (st.shares ++ record { process = p; heap = s } ∷ [])) m ≤ max_of (limits_in trace st) m) (sym same_owner)
      (le_trans (use_by_less trace (limits_in trace st) (charge_by (bytes_of trace st) st.ended (st.shares ++ record { process = p; heap = s } ∷ [])) (charge_of trace st) same_charge m) (sound.uses m inside))
    where
      same_charge : (q : ℕ) → charge_by (bytes_of trace st) st.ended (st.shares ++ record { process = p; heap = s } ∷ []) q ≤ charge_of trace st q
      same_charge q =
          let more = charge_sharing (bytes_of trace st) st.ended st.shares p s lives q in
          let none = ap (λ k. k * bit (q == p)) (bytes_none (owner_of trace st) (shared s) st.objects (λ n there. sound.phases.unmade_objects s n unmade there)) in
          omega arith

  pub populating_sound : IsSound trace (sharing (set_phase s phase st) p s)
  unfolding set_phase
  populating_sound = record {
    shape = record {
      sized = record { made = sound.shape.sized.made; registers = sound.shape.sized.registers; each = sound.shape.sized.each; done = sound.shape.sized.done; phases = length-set st.phases s _ ∙ sound.shape.sized.phases; maxima = sound.shape.sized.maxima };
      distinct_exits = sound.shape.distinct_exits;
      distinct_shares = distinct_shares-push p s st.shares (no_share p) sound.shape.distinct_shares;
      distinct_scans = sound.shape.distinct_scans;
      placed = sound.shape.placed;
      typed = sound.shape.typed;
      declared = declared-phase trace st.ended st.phases s phase (λ r e. let same : pid ≡ r = cc e in subst (λ k. k.0 < process_count trace) same known) sound.shape.declared;
      known = record {
        referring = sound.shape.known.referring;
        sharers = λ q t e. elim (cases q t e) [ inl before ↦ sound.shape.known.sharers q t before | inr new ↦ subst (λ k. k < process_count trace) (sym new.0) known ];
        shared = λ q t e. elim (cases q t e) [ inl before ↦ sound.shape.known.shared q t before | inr new ↦ subst (λ k. k < trace.shared_heaps) (sym new.1) inside ];
        scanned = sound.shape.known.scanned;
      };
    };
    names = record { ordered = sound.names.ordered; numbered = sound.names.numbered };
    no_dangling = record {
      directory = sound.no_dangling.directory;
      fields = sound.no_dangling.fields;
      registers = sound.no_dangling.registers;
      exits = sound.no_dangling.exits;
      scans = sound.no_dangling.scans;
      frozen = λ q r e. elim (phase_cases q) [ inl same ↦ sound.no_dangling.frozen q r (sym same ∙ e) | inr here ↦ absurd (cc (here.1, e)) ];
    };
    guarded = subst (λ own. AreGuarded own st.objects st.exits) (sym same_owner) sound.guarded;
    exits = subst (λ own. AreExits own st.exits) (sym same_owner) sound.exits;
    gone = record {
      registers = sound.gone.registers;
      shares = λ q t ended. false_from_ne_true _ (λ e. elim (cases q t e) [
        | inl before ↦ false≢true (sym (sound.gone.shares q t ended) ∙ before)
        | inr new ↦ false≢true (sym lives ∙ ap (λ k. among k st.ended) (sym new.0) ∙ ended)
      ]);
      scans = sound.gone.scans;
      exits = sound.gone.exits;
      absorbed_shares = λ t e. elim (phase_cases t) [
        | inl same ↦ false_from_ne_true _ (λ a. elim (sharer_cases st.shares p s t a) [
          | inl before ↦ false≢true (sym (sound.gone.absorbed_shares t (sym same ∙ e)) ∙ before)
          | inr new ↦ absurd (cc (ap (phase_of (set st.phases s phase)) (sym new) ∙ e, phase_here))
        ])
        | inr here ↦ absurd (cc (here.1, e))
      ];
      absorbed_exits = λ t n e. elim (phase_cases t) [ inl same ↦ sound.gone.absorbed_exits t n (sym same ∙ e) | inr here ↦ absurd (cc (here.1, e)) ];
    };
    phases = record {
      unmade_shares = λ t e. elim (phase_cases t) [
        | inl same ↦ false_from_ne_true _ (λ a. elim (sharer_cases st.shares p s t a) [
          | inl before ↦ false≢true (sym (sound.phases.unmade_shares t (sym same ∙ e)) ∙ before)
          | inr new ↦ absurd (cc (ap (phase_of (set st.phases s phase)) (sym new) ∙ e, phase_here))
        ])
        | inr here ↦ absurd (cc (here.1, e))
      ];
      unmade_objects = λ t n e there at. elim (phase_cases t) [
        | inl same ↦ sound.phases.unmade_objects t n (sym same ∙ e) there (sym (owner_at n.seg.0) ∙ at)
        | inr here ↦ absurd (cc (here.1, e))
      ];
      populating = λ t q k e a. elim (cases k t a) [
        | inl before ↦ elim (phase_cases t) [
          | inl same ↦ sound.phases.populating t q k (sym same ∙ e) before
          | inr here ↦ absurd (false≢true (sym (no_share k) ∙ ap (has_share st.shares k) (sym here.0) ∙ before))
        ]
        | inr new ↦
            let is : pid ≡ q = cc (sym phase_here ∙ ap (phase_of (set st.phases s phase)) (sym new.1) ∙ e) in
            new.0 ∙ ap (λ (k : Pid). k.0) is
      ];
      populated = λ t q e alive. elim (phase_cases t) [
        | inl same ↦ share_kept st.shares p s q.0 t (sound.phases.populated t q (sym same ∙ e) alive)
        | inr here ↦
            let is : pid ≡ q = cc (sym here.1 ∙ e) in
            ap₂ (λ k u. has_share (st.shares ++ record { process = p; heap = s } ∷ []) k u) (sym (ap (λ (k : Pid). k.0) is)) here.0 ∙ share_there st.shares p s
      ];
      frozen = λ q r e. owner_at r.seg.0 ∙ elim (phase_cases q) [
        | inl same ↦ sound.phases.frozen q r (sym same ∙ e)
        | inr here ↦ absurd (cc (here.1, e))
      ];
    };
    uses = uses_fit;
    scans = record {
      own = λ h rs n o t. owner_at n.seg.0 ∙ sound.scans.own h rs n o t;
      recorded = λ h rs n o there at root. sound.scans.recorded h rs n o there (sym (owner_at n.seg.0) ∙ at) (root_before h n root);
      none_shared = sound.scans.none_shared;
    };
  }
