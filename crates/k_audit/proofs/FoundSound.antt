-- The snapshot of a sound state is found sound.
use Rattle.std.proofs.Common.{◌≡◌, ◌∙◌, ℕ, ◌≤◌, refl, sym, ap, subst}
use Rattle.k_types.specs.declared.names.Heap.{Heap}
use Rattle.k_types.specs.Limits.{limits_in, max_of}
use Rattle.k_types.specs.Owners.{owner_of, shared, user}
use Rattle.k_types.specs.Sound.{AreExits, AreGone, AreGuarded, ArePhases, HasNoDangling, IsSound}
use Rattle.k_types.specs.State.{State}
use Rattle.k_types.specs.Trace.{Trace}
use Rattle.k_trace.specs.Named.{DeclaredNames}
use Rattle.k_audit.specs.Claims.{exits_in_order, snap_of, still}
use Rattle.k_audit.specs.Ranges.{IsInRange}
use Rattle.k_audit.specs.Snapshots.{snapshot_text}
use Rattle.k_audit.specs.Verdicts.{HoldsAt, IsSoundText}
use Rattle.k_audit.proofs.Sayable.{spelled_claims, spelled_state}
use Rattle.k_audit.proofs.Stilled.{claims_same, ended_same, exit_same, own_same, share_same, sharer_same, use_same}
use Rattle.k_audit.proofs.Written.{text_is}
use Rattle.k_audit.proofs.Means.{none_scanned}

module _ (trace : Trace) (st : State) (sound : IsSound trace st) where
  own_at : (segment : ℕ) → owner_of trace (still trace st) segment ≡ owner_of trace st segment
  own_at segment = ap (λ (own : ℕ → Heap). own segment) (own_same trace st sound)

  none_dangles : HasNoDangling (still trace st)
  none_dangles = record {
    directory = sound.no_dangling.directory;
    fields = sound.no_dangling.fields;
    registers = sound.no_dangling.registers;
    exits = λ h n there. sound.no_dangling.exits h n (sym (exit_same trace st sound h n) ∙ there);
    scans = λ h roots n is. absurd (none_scanned (still trace st).scans h roots refl is);
    frozen = sound.no_dangling.frozen;
  }

  are_guarded : AreGuarded (owner_of trace (still trace st)) st.objects (exits_in_order trace st)
  are_guarded =
      let guarded = subst (λ (own : ℕ → Heap). AreGuarded own st.objects st.exits) (sym (own_same trace st sound)) sound.guarded in
      record { allowed = guarded.allowed; listed = λ x y refers leaves. exit_same trace st sound (owner_of trace (still trace st) x.seg.0) y ∙ guarded.listed x y refers leaves }

  are_exits : AreExits (owner_of trace (still trace st)) (exits_in_order trace st)
  are_exits =
      let exits = subst (λ (own : ℕ → Heap). AreExits own st.exits) (sym (own_same trace st sound)) sound.exits in
      record {
        leave = λ h n there. exits.leave h n (sym (exit_same trace st sound h n) ∙ there);
        allowed = λ h n there. exits.allowed h n (sym (exit_same trace st sound h n) ∙ there);
      }

  are_gone : AreGone (still trace st)
  are_gone = record {
    registers = λ p n gone. sound.gone.registers p n (sym (ended_same trace st sound p) ∙ gone);
    shares = λ p s gone. share_same trace st sound p s ∙ sound.gone.shares p s (sym (ended_same trace st sound p) ∙ gone);
    scans = λ p gone. refl;
    exits = λ p n gone. exit_same trace st sound (user p) n ∙ sound.gone.exits p n (sym (ended_same trace st sound p) ∙ gone);
    absorbed_shares = λ s is. sharer_same trace st sound s ∙ sound.gone.absorbed_shares s is;
    absorbed_exits = λ s n is. exit_same trace st sound (shared s) n ∙ sound.gone.absorbed_exits s n is;
  }

  are_phases : ArePhases trace (still trace st)
  are_phases = record {
    unmade_shares = λ s is. sharer_same trace st sound s ∙ sound.phases.unmade_shares s is;
    unmade_objects = λ s n is there owns. sound.phases.unmade_objects s n is there (sym (own_at n.seg.0) ∙ owns);
    populating = λ s q p is there. sound.phases.populating s q p is (sym (share_same trace st sound p s) ∙ there);
    populated = λ s q is lives. share_same trace st sound q.0 s ∙ sound.phases.populated s q is (sym (ended_same trace st sound q.0) ∙ lives);
    frozen = λ s root is. own_at root.seg.0 ∙ sound.phases.frozen s root is;
  }

  holds : (k : ℕ) → HoldsAt trace (snap_of trace st) k
  holds k = record {
    names = λ e. sound.names;
    no_dangling = λ e. none_dangles;
    guarded = λ e. are_guarded;
    exits = λ e. are_exits;
    gone = λ e. are_gone;
    phases = λ e. are_phases;
    uses = λ e m inside. subst (λ (used : ℕ → ℕ). used m ≤ max_of (limits_in trace st) m) (sym (use_same trace st sound)) (sound.uses m inside);
    claims = λ e. claims_same trace st sound;
  }

  pub found_sound : IsInRange trace st → (names : DeclaredNames) → IsSoundText names trace (snapshot_text names trace st)
  found_sound range names = record {
    snap = snap_of trace st;
    spells = record {
      spelled = record { state = spelled_state trace st sound range; claims = spelled_claims trace st sound range };
      text = text_is names trace st sound.shape.sized;
    };
    all = holds;
  }
