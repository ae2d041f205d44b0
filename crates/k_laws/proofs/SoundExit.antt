-- A sound state stays sound where an exit item is added.
use Rattle.std.proofs.Common.{◌≡◌, ◌≢◌, ℕ, ◌⊎◌, ◌&&◌, ◌||◌, not, Bool, true, false, cond, refl, sym, ap, ◌∙◌, inl, inr, List, [], ◌∷◌, ◌++◌, arith, IsTrue, IsFalse}
use Rattle.std.proofs.lemmas.Bool.{and_parts, and_from, or_left, or_right, or_cases, or_parts, false≢true, false_from_ne_true}
use Rattle.std.proofs.lemmas.List.Folds.{list_any-append}
use Rattle.k_types.specs.declared.names.Name.{Name}
use Rattle.k_types.specs.declared.names.Heap.{Heap}
use Rattle.k_types.specs.declared.names.Heap.TheVariants.{Kernel, User, Shared}
use Rattle.k_types.specs.declared.names.Phase.TheVariants.{Absorbed}
use Rattle.k_types.specs.Names.{name_eq, heap_eq, among}
use Rattle.k_types.specs.Trace.{IsHeap, Trace, process_count}
use Rattle.k_types.specs.State.{State, ExitItem, has, has_exit, scan_of}
use Rattle.k_types.specs.Owners.{owner_of, user, shared, bytes_by, phase_of}
use Rattle.k_types.specs.Reach.{is_root, is_entered, is_held, is_pinned, has_entry}
use Rattle.k_types.specs.Updates.{add_exit, with_exit}
use Rattle.k_types.specs.Sound.{IsSound, IsLegalStore, AreDistinctExits}
use Rattle.k_types.proofs.NameTests.{name_eq_refl, name_eq-true, heap_eq-true, heap_eq_refl, name_eq_sym, heap_eq_sym}
use Rattle.k_laws.proofs.Shielded.{IsShielded}

or_false : (b : Bool) → (b || false) ≡ true → b ≡ true
or_false true t = refl
or_false false t = t

exit_cases : (g : Heap) (y : Name) (exits : List ExitItem) (h : Heap) (n : Name) → IsTrue (has_exit (with_exit g y exits) h n) → IsTrue (has_exit exits h n) ⊎ ((g ≡ h) × (y ≡ n))
exit_cases g y exits h n =
    elim (has_exit exits g y) as (λ b. IsTrue (has_exit (cond b exits (exits ++ record { heap = g; target = y } ∷ [])) h n) → IsTrue (has_exit exits h n) ⊎ ((g ≡ h) × (y ≡ n))) [
      | true ↦ λ e. inl e
      | false ↦ λ e. elim (or_cases (has_exit exits h n) (has_exit (record { heap = g; target = y } ∷ []) h n) (sym (list_any-append (λ e. heap_eq e.heap h && name_eq e.target n) exits (record { heap = g; target = y } ∷ [])) ∙ e)) [
        | inl before ↦ inl before
        | inr new ↦ inr (last g y h n new)
      ]
    ]
  where
    last : (g : Heap) (y : Name) (h : Heap) (n : Name) → IsTrue (has_exit (record { heap = g; target = y } ∷ []) h n) → (g ≡ h) × (y ≡ n)
    last g y h n new =
        elim (or_cases (heap_eq g h && name_eq y n) false new) [
          | inl t ↦ let parts = and_parts (heap_eq g h) (name_eq y n) t in (heap_eq-true g h parts.0, name_eq-true y n parts.1)
          | inr t ↦ absurd (false≢true t)
        ]

pub exit_kept : (g : Heap) (y : Name) (exits : List ExitItem) (h : Heap) (n : Name) → IsTrue (has_exit exits h n) → IsTrue (has_exit (with_exit g y exits) h n)
exit_kept g y exits h n e =
    elim (has_exit exits g y) as (λ b. IsTrue (has_exit (cond b exits (exits ++ record { heap = g; target = y } ∷ [])) h n)) [
      | true ↦ e
      | false ↦ list_any-append (λ e. heap_eq e.heap h && name_eq e.target n) exits (record { heap = g; target = y } ∷ []) ∙ or_left _ _ e
    ]

pub exit_there : (g : Heap) (y : Name) (exits : List ExitItem) → IsTrue (has_exit (with_exit g y exits) g y)
exit_there g y exits =
    elim (has_exit exits g y) as (λ b. has_exit exits g y ≡ b → IsTrue (has_exit (cond b exits (exits ++ record { heap = g; target = y } ∷ [])) g y)) [
      | true ↦ λ e. e
      | false ↦ λ e. list_any-append (λ e. heap_eq e.heap g && name_eq e.target y) exits (record { heap = g; target = y } ∷ [])
          ∙ or_right _ _ (or_left (heap_eq g g && name_eq y y) false (and_from _ _ (heap_eq_refl g) (name_eq_refl y)))
    ] refl

absent-push : (g h : Heap) (y n : Name) (exits : List ExitItem) → IsFalse (heap_eq h g && name_eq n y) → IsFalse (has_exit exits h n) → IsFalse (has_exit (exits ++ record { heap = g; target = y } ∷ []) h n)
absent-push g h y n exits other absent = rw list_any-append (grind (arith, other, absent, heap_eq_sym g h, name_eq_sym y n))

distinct-push : (g : Heap) (y : Name) (exits : List ExitItem) → IsFalse (has_exit exits g y) → AreDistinctExits exits → AreDistinctExits (exits ++ record { heap = g; target = y } ∷ [])
distinct-push g y [] new d = (refl, tt)
distinct-push g y (e ∷ exits) new d =
    let parts = or_parts (heap_eq e.heap g && name_eq e.target y) (has_exit exits g y) new in
    (absent-push g e.heap y e.target exits parts.0 d.0, distinct-push g y exits parts.1 d.1)

distinct-added : (g : Heap) (y : Name) (exits : List ExitItem) → AreDistinctExits exits → AreDistinctExits (with_exit g y exits)
distinct-added g y exits d =
    elim (has_exit exits g y) as (λ b. has_exit exits g y ≡ b → AreDistinctExits (cond b exits (exits ++ record { heap = g; target = y } ∷ []))) [
      | true ↦ λ e. d
      | false ↦ λ e. distinct-push g y exits e d
    ] refl

-- the exit item that is added
pub record MayAddExit (trace : Trace) (st : State) (g : Heap) (y : Name) : Type 0 where
  pub there : IsTrue (has st.objects y)
  pub known : IsHeap trace g
  pub leaves : IsFalse (heap_eq g (owner_of trace st y.seg.0))
  pub allowed : IsLegalStore g (owner_of trace st y.seg.0)
  pub shielded : IsShielded trace st y
  pub lives : (p : ℕ) → g ≡ user p → IsFalse (among p st.ended)
  pub stands : (s : ℕ) → g ≡ shared s → phase_of st.phases s ≢ Absorbed

module _ (trace : Trace) (st : State) (g : Heap) (y : Name) (sound : IsSound trace st) (may : MayAddExit trace st g y) where
  entry_before : (n : Name) → has_entry (owner_of trace st) (with_exit g y st.exits) n ≡ true → (has_entry (owner_of trace st) st.exits n ≡ true) ⊎ (y ≡ n)
  entry_before n =
      elim (has_exit st.exits g y) as (λ b. has_entry (owner_of trace st) (cond b st.exits (st.exits ++ record { heap = g; target = y } ∷ [])) n ≡ true → (has_entry (owner_of trace st) st.exits n ≡ true) ⊎ (y ≡ n)) [
        | true ↦ λ e. inl e
        | false ↦ λ e. elim (or_cases (has_entry (owner_of trace st) st.exits n) (has_entry (owner_of trace st) (record { heap = g; target = y } ∷ []) n)
            (sym (list_any-append (λ e. not (heap_eq e.heap (owner_of trace st n.seg.0)) && name_eq e.target n) st.exits (record { heap = g; target = y } ∷ [])) ∙ e)) [
              | inl before ↦ inl before
              | inr new ↦ inr (name_eq-true y n (and_parts (not (heap_eq g (owner_of trace st n.seg.0))) (name_eq y n) (or_false _ new)).1)
            ]
      ]

  -- what is a root afterwards was one before, or is the target
  root_before : (h : Heap) (n : Name) → is_root trace (add_exit g y st) h n ≡ true → (is_root trace st h n ≡ true) ⊎ (y ≡ n)
  unfolding is_entered is_held add_exit
  root_before h n root =
      elim (or_cases (is_entered trace (add_exit g y st) n) (is_held (add_exit g y st) h n) root) [
        | inl entered ↦
            elim (or_cases (has_entry (owner_of trace st) (with_exit g y st.exits) n) (is_pinned (process_count trace) (owner_of trace st) st.registers n) entered) [
              | inl entry ↦
                  elim (entry_before n entry) [
                    | inl before ↦ inl (or_left _ (is_held st h n) (or_left _ (is_pinned (process_count trace) (owner_of trace st) st.registers n) before))
                    | inr new ↦ inr new
                  ]
              | inr pinned ↦ inl (or_left _ (is_held st h n) (or_right (has_entry (owner_of trace st) st.exits n) _ pinned))
            ]
        | inr held ↦ inl (or_right (is_entered trace st n) _ (held_same h held))
      ]
    where
      held_same : (k : Heap) → is_held (add_exit g y st) k n ≡ true → is_held st k n ≡ true
      held_same Kernel t = t
      held_same (User q) t = t
      held_same (Shared s) t = t

  pub add_exit_sound : IsSound trace (add_exit g y st)
  unfolding add_exit bytes_by
  add_exit_sound = record {
    shape = record {
      sized = record { made = sound.shape.sized.made; registers = sound.shape.sized.registers; each = sound.shape.sized.each; done = sound.shape.sized.done; phases = sound.shape.sized.phases; maxima = sound.shape.sized.maxima };
      distinct_exits = distinct-added g y st.exits sound.shape.distinct_exits;
      distinct_shares = sound.shape.distinct_shares;
      distinct_scans = sound.shape.distinct_scans;
      placed = sound.shape.placed;
      typed = sound.shape.typed;
      declared = sound.shape.declared;
      known = record {
        referring = λ h n e. elim (exit_cases g y st.exits h n e) [ inl before ↦ sound.shape.known.referring h n before | inr new ↦ rw (← new.0) may.known ];
        sharers = sound.shape.known.sharers;
        shared = sound.shape.known.shared;
        scanned = sound.shape.known.scanned;
      };
    };
    names = record {
      ordered = sound.names.ordered;
      numbered = sound.names.numbered;
    };
    no_dangling = record {
      directory = sound.no_dangling.directory;
      fields = sound.no_dangling.fields;
      registers = sound.no_dangling.registers;
      exits = λ h n e. elim (exit_cases g y st.exits h n e) [ inl before ↦ sound.no_dangling.exits h n before | inr new ↦ rw (← new.1) may.there ];
      scans = sound.no_dangling.scans;
      frozen = sound.no_dangling.frozen;
    };
    guarded = record {
      allowed = sound.guarded.allowed;
      listed = λ a b r apart. exit_kept g y st.exits (owner_of trace st a.seg.0) b (sound.guarded.listed a b r apart);
    };
    exits = record {
      leave = λ h n e. elim (exit_cases g y st.exits h n e) [ inl before ↦ sound.exits.leave h n before | inr new ↦ rw (← new.0, ← new.1) may.leaves ];
      allowed = λ h n e. elim (exit_cases g y st.exits h n e) [ inl before ↦ sound.exits.allowed h n before | inr new ↦ rw (← new.0, ← new.1) may.allowed ];
    };
    gone = record {
      registers = sound.gone.registers;
      shares = sound.gone.shares;
      scans = sound.gone.scans;
      exits = λ p n ended. false_from_ne_true _ (λ e. elim (exit_cases g y st.exits (user p) n e) [
        | inl before ↦ false≢true (sym (sound.gone.exits p n ended) ∙ before)
        | inr new ↦ false≢true (sym (may.lives p new.0) ∙ ended)
      ]);
      absorbed_shares = sound.gone.absorbed_shares;
      absorbed_exits = λ s n gone. false_from_ne_true _ (λ e. elim (exit_cases g y st.exits (shared s) n e) [
        | inl before ↦ false≢true (sym (sound.gone.absorbed_exits s n gone) ∙ before)
        | inr new ↦ may.stands s new.0 gone
      ]);
    };
    phases = record { unmade_shares = sound.phases.unmade_shares; unmade_objects = sound.phases.unmade_objects; populating = sound.phases.populating; populated = sound.phases.populated; frozen = sound.phases.frozen };
    uses = sound.uses;
    scans = record {
      own = sound.scans.own;
      recorded = λ h roots n opened there at root. elim (root_before h n root) [
        | inl before ↦ sound.scans.recorded h roots n opened there at before
        | inr new ↦ rw (← new) (may.shielded roots (ap (λ m. scan_of st.scans (owner_of trace st m.seg.0)) new ∙ ap (scan_of st.scans) at ∙ opened))
      ];
      none_shared = sound.scans.none_shared;
    };
  }
