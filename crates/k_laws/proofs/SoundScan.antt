-- A sound state stays sound where a collection begins.
use Rattle.std.proofs.Common.{◌≡◌, ◌⊎◌, ◌&&◌, ◌||◌, Bool, true, false, cond, refl, subst, sym, ap, ◌∙◌, inl, inr, List, [], ◌∷◌, map, filter, Some, None, IsTrue, option_map, find}
use Rattle.std.proofs.lemmas.Bool.{and_parts, and_from, false≢true}
use Rattle.k_types.specs.declared.names.Name.{Name}
use Rattle.k_types.specs.declared.names.Heap.{Heap}
use Rattle.k_types.specs.Names.{name_eq, heap_eq, name_among}
use Rattle.k_types.specs.Trace.{IsHeap, Trace}
use Rattle.k_types.specs.State.{State, Object, has, scan_of, Scan}
use Rattle.k_types.specs.Owners.{owner_of, user, shared, bytes_by, objects_of}
use Rattle.k_types.specs.Reach.{is_root, is_entered, is_held, roots_of}
use Rattle.k_types.specs.Sound.{IsSound}
use Rattle.k_types.proofs.NameTests.{heap_eq-true, heap_eq-false, heap_eq-same}
use Rattle.k_types.specs.Updates.{open_scan}
use Rattle.k_laws.specs.Changes.{MayScan}
use Rattle.k_types.proofs.Objects.{has-kept}

among-names : (n : Name) (xs : List Object) → name_among n (map (λ o. o.name) xs) ≡ has xs n
among-names n [] = refl
among-names n (x ∷ xs) = ap (λ b. name_eq x.name n || b) (among-names n xs)

pub among-roots : (trace : Trace) (st : State) (h : Heap) (n : Name) → name_among n (roots_of trace st h) ≡ ((has st.objects n && heap_eq (owner_of trace st n.seg.0) h) && is_root trace st h n)
unfolding roots_of
among-roots trace st h n =
    among-names n (filter (λ o. is_root trace st h o.name) (objects_of (owner_of trace st) h st.objects))
    ∙ has-kept (is_root trace st h) (objects_of (owner_of trace st) h st.objects) n
    ∙ ap (λ b. b && is_root trace st h n) (has-kept (λ m. heap_eq (owner_of trace st m.seg.0) h) st.objects n)

module _ (trace : Trace) (st : State) (h : Heap) (sound : IsSound trace st) (may : MayScan trace st h) where
  scan_cases : (g : Heap) (rs : List Name) → scan_of (record { heap = h; roots = roots_of trace st h } ∷ st.scans) g ≡ Some rs →
      ((h ≡ g) × (roots_of trace st h ≡ rs)) ⊎ (scan_of st.scans g ≡ Some rs)
  scan_cases g rs = go (heap_eq h g) refl
    where
      go : (b : Bool) → heap_eq h g ≡ b → option_map (λ (scan : Scan). scan.roots) (cond b (Some (record { heap = h; roots = roots_of trace st h })) (find (λ scan. heap_eq scan.heap g) st.scans)) ≡ Some rs →
          ((h ≡ g) × (roots_of trace st h ≡ rs)) ⊎ (scan_of st.scans g ≡ Some rs)
      go true t e = inl (heap_eq-true h g t, cc e)
      go false t e = inr e

  scan_none : (g : Heap) → (h ≡ g → ⊥) → scan_of st.scans g ≡ None → scan_of (record { heap = h; roots = roots_of trace st h } ∷ st.scans) g ≡ None
  scan_none g apart none = rw (heap_eq-false h g apart) none

  root_parts : (n : Name) → IsTrue (name_among n (roots_of trace st h)) → IsTrue (has st.objects n) × (owner_of trace st n.seg.0 ≡ h)
  root_parts n t =
      let one = and_parts (has st.objects n && heap_eq (owner_of trace st n.seg.0) h) (is_root trace st h n) (sym (among-roots trace st h n) ∙ t) in
      let two = and_parts (has st.objects n) (heap_eq (owner_of trace st n.seg.0) h) one.0 in
      (two.0, heap_eq-true (owner_of trace st n.seg.0) h two.1)

  pub open_scan_sound : IsSound trace (open_scan h (roots_of trace st h) st)
  unfolding open_scan bytes_by is_entered is_held
  open_scan_sound = record {
    shape = record {
      sized = record { made = sound.shape.sized.made; registers = sound.shape.sized.registers; each = sound.shape.sized.each; done = sound.shape.sized.done; phases = sound.shape.sized.phases; maxima = sound.shape.sized.maxima };
      distinct_exits = sound.shape.distinct_exits;
      distinct_shares = sound.shape.distinct_shares;
      distinct_scans = (may.idle, sound.shape.distinct_scans);
      placed = sound.shape.placed;
      typed = sound.shape.typed;
      declared = sound.shape.declared;
      known = record {
        referring = sound.shape.known.referring;
        sharers = sound.shape.known.sharers;
        shared = sound.shape.known.shared;
        scanned = λ g rs o. elim (scan_cases g rs o) [ inl new ↦ subst (IsHeap trace) new.0 may.known | inr before ↦ sound.shape.known.scanned g rs before ];
      };
    };
    names = record {
      ordered = sound.names.ordered;
      numbered = sound.names.numbered;
    };
    no_dangling = record {
      directory = sound.no_dangling.directory;
      fields = sound.no_dangling.fields;
      registers = sound.no_dangling.registers;
      exits = sound.no_dangling.exits;
      scans = λ g rs n o t. elim (scan_cases g rs o) [
        | inl new ↦ (root_parts n (ap (name_among n) new.1 ∙ t)).0
        | inr before ↦ sound.no_dangling.scans g rs n before t
      ];
      frozen = sound.no_dangling.frozen;
    };
    guarded = record { allowed = sound.guarded.allowed; listed = sound.guarded.listed };
    exits = record { leave = sound.exits.leave; allowed = sound.exits.allowed };
    gone = record {
      registers = sound.gone.registers;
      shares = sound.gone.shares;
      scans = λ p ended. scan_none (user p) (λ e. false≢true (sym (may.lives p e) ∙ ended)) (sound.gone.scans p ended);
      exits = sound.gone.exits;
      absorbed_shares = sound.gone.absorbed_shares;
      absorbed_exits = sound.gone.absorbed_exits;
    };
    phases = record { unmade_shares = sound.phases.unmade_shares; unmade_objects = sound.phases.unmade_objects; populating = sound.phases.populating; populated = sound.phases.populated; frozen = sound.phases.frozen };
    uses = sound.uses;
    scans = record {
      own = λ g rs n o t. elim (scan_cases g rs o) [
        | inl new ↦ (root_parts n (ap (name_among n) new.1 ∙ t)).1 ∙ new.0
        | inr before ↦ sound.scans.own g rs n before t
      ];
      recorded = λ g rs n o there at root. elim (scan_cases g rs o) [
        | inl new ↦ ap (name_among n) (sym new.1) ∙ among-roots trace st h n
            ∙ and_from _ _ (and_from _ _ there (heap_eq-same (owner_of trace st n.seg.0) h (at ∙ sym new.0))) (ap (λ k. is_root trace st k n) new.0 ∙ root)
        | inr before ↦ sound.scans.recorded g rs n before there at root
      ];
      none_shared = λ s. scan_none (shared s) (may.not_shared s) (sound.scans.none_shared s);
    };
  }
