-- A sound state stays sound where a process begins to share a heap.
use Rattle.std.proofs.Common.{◌≡◌, ◌≢◌, ℕ, ◌<◌, ◌≤◌, ◌⊎◌, ◌&&◌, ◌||◌, ◌==◌, false, refl, sym, ap, ◌∙◌, inl, inr, List, [], ◌∷◌, ◌++◌, length, arith, IsTrue, IsFalse, subst}
use Rattle.std.proofs.lemmas.Bool.{or_cases, or_parts, or_left, or_right, false≢true, false_from_ne_true}
use Rattle.std.proofs.lemmas.Bool.Decides.{nat_tests}
use Rattle.std.proofs.lemmas.List.Folds.{list_any-append}
use Rattle.k_types.specs.declared.names.Name.{Name}
use Rattle.k_types.specs.declared.names.Heap.{Heap}
use Rattle.k_types.specs.declared.names.Heap.TheVariants.{Kernel, User, Shared}
use Rattle.k_types.specs.declared.names.Pid.{Pid}
use Rattle.k_types.specs.declared.names.Phase.TheVariants.{Unmade, Populating, Absorbed}
use Rattle.k_types.specs.Names.{heap_eq, among}
use Rattle.k_types.specs.Trace.{Trace, process_count}
use Rattle.k_types.specs.State.{State, Object, Sharing, has, has_share}
use Rattle.k_types.specs.Owners.{bytes_by, bytes_of, charge_by, phase_of}
use Rattle.k_types.specs.Limits.{limits_in, use_by, max_of}
use Rattle.k_types.specs.Reach.{is_entered, is_held}
use Rattle.k_types.specs.Steps.{has_sharer}
use Rattle.k_types.specs.Sound.{IsSound, AreDistinctShares}
use Rattle.k_types.proofs.NameTests.{name_eq_refl, heap_eq-true}

pub share_cases : (shares : List Sharing) (p s q t : ℕ) → IsTrue (has_share (shares ++ record { process = p; heap = s } ∷ []) q t) → IsTrue (has_share shares q t) ⊎ ((q ≡ p) × (t ≡ s))
share_cases shares p s q t e =
    elim (or_cases (has_share shares q t) (has_share (record { process = p; heap = s } ∷ []) q t) (sym (list_any-append (λ e. (e.process == q) && (e.heap == t)) shares (record { process = p; heap = s } ∷ [])) ∙ e)) [
      | inl before ↦ inl before
      | inr new ↦ inr (last p s q t new)
    ]
  where
    last : (p s q t : ℕ) → IsTrue (has_share (record { process = p; heap = s } ∷ []) q t) → (q ≡ p) × (t ≡ s)
    last p s q t new = grind (arith, nat_tests)

pub share_kept : (shares : List Sharing) (p s q t : ℕ) → IsTrue (has_share shares q t) → IsTrue (has_share (shares ++ record { process = p; heap = s } ∷ []) q t)
share_kept shares p s q t e = list_any-append (λ e. (e.process == q) && (e.heap == t)) shares (record { process = p; heap = s } ∷ []) ∙ or_left _ _ e

pub share_there : (shares : List Sharing) (p s : ℕ) → IsTrue (has_share (shares ++ record { process = p; heap = s } ∷ []) p s)
share_there shares p s = list_any-append (λ e. (e.process == p) && (e.heap == s)) shares (record { process = p; heap = s } ∷ []) ∙ or_right _ _ (itself p s)
  where
    itself : (p s : ℕ) → IsTrue (has_share (record { process = p; heap = s } ∷ []) p s)
    itself p s = grind (arith, nat_tests)

pub sharer_cases : (shares : List Sharing) (p s t : ℕ) → IsTrue (has_sharer (shares ++ record { process = p; heap = s } ∷ []) t) → IsTrue (has_sharer shares t) ⊎ (t ≡ s)
sharer_cases shares p s t e =
    elim (or_cases (has_sharer shares t) (has_sharer (record { process = p; heap = s } ∷ []) t) (sym (list_any-append (λ e. e.heap == t) shares (record { process = p; heap = s } ∷ [])) ∙ e)) [
      | inl before ↦ inl before
      | inr new ↦ inr (last p s t new)
    ]
  where
    last : (p s t : ℕ) → IsTrue (has_sharer (record { process = p; heap = s } ∷ []) t) → t ≡ s
    last p s t new = grind (arith, nat_tests)

share_absent : (p s q t : ℕ) (shares : List Sharing) → IsFalse ((q == p) && (t == s)) → IsFalse (has_share shares q t) → IsFalse (has_share (shares ++ record { process = p; heap = s } ∷ []) q t)
share_absent p s q t shares other absent = false_from_ne_true _ (λ e. elim (share_cases shares p s q t e) [
  | inl before ↦ false≢true (sym absent ∙ before)
  | inr new ↦ clash p s q t new.0 new.1 other
])
  where
    clash : (p s q t : ℕ) → q ≡ p → t ≡ s → IsFalse ((q == p) && (t == s)) → ⊥
    clash p s q t e f other = grind (arith, nat_tests)

pub distinct_shares-push : (p s : ℕ) (shares : List Sharing) → IsFalse (has_share shares p s) → AreDistinctShares shares → AreDistinctShares (shares ++ record { process = p; heap = s } ∷ [])
distinct_shares-push p s [] new d = (refl, tt)
distinct_shares-push p s (e ∷ shares) new d =
    let parts = or_parts ((e.process == p) && (e.heap == s)) (has_share shares p s) new in
    (share_absent p s e.process e.heap shares parts.0 d.0, distinct_shares-push p s shares parts.1 d.1)

-- the share that is added
pub record MayShare (trace : Trace) (st : State) (p s : ℕ) : Type 0 where
  pub known : p < process_count trace
  pub heap : s < trace.shared_heaps
  pub lives : IsFalse (among p st.ended)
  pub stands : phase_of st.phases s ≢ Absorbed
  pub made : phase_of st.phases s ≢ Unmade
  pub populates : (q : Pid) → phase_of st.phases s ≡ Populating q → p ≡ q.0
  pub new : IsFalse (has_share st.shares p s)
  pub fits : (m : ℕ) → m < length trace.limits → use_by trace (limits_in trace st) (charge_by (bytes_of trace st) st.ended (st.shares ++ record { process = p; heap = s } ∷ [])) m ≤ max_of (limits_in trace st) m

-- the state with the share
abbrev pub sharing : State → ℕ → ℕ → State
sharing st p s = record st { shares = st.shares ++ record { process = p; heap = s } ∷ [] }

module _ (trace : Trace) (st : State) (p s : ℕ) (sound : IsSound trace st) (may : MayShare trace st p s) where
  cases : (q t : ℕ) → IsTrue (has_share (st.shares ++ record { process = p; heap = s } ∷ []) q t) → IsTrue (has_share st.shares q t) ⊎ ((q ≡ p) × (t ≡ s))
  cases q t e = share_cases st.shares p s q t e

  held_same : (h : Heap) (n : Name) → is_held (sharing st p s) h n ≡ is_held st h n
  unfolding is_held
  held_same Kernel n = refl
  held_same (User q) n = refl
  held_same (Shared q) n = refl

  pub sharing_sound : IsSound trace (sharing st p s)
  unfolding bytes_by is_entered is_held
  sharing_sound = record {
    shape = record {
      sized = record { made = sound.shape.sized.made; registers = sound.shape.sized.registers; each = sound.shape.sized.each; done = sound.shape.sized.done; phases = sound.shape.sized.phases; maxima = sound.shape.sized.maxima };
      distinct_exits = sound.shape.distinct_exits;
      distinct_shares = distinct_shares-push p s st.shares may.new sound.shape.distinct_shares;
      distinct_scans = sound.shape.distinct_scans;
      placed = sound.shape.placed;
      typed = sound.shape.typed;
      declared = sound.shape.declared;
      known = record {
        referring = sound.shape.known.referring;
        sharers = λ q t e. elim (cases q t e) [ inl before ↦ sound.shape.known.sharers q t before | inr new ↦ subst (λ k. k < process_count trace) (sym new.0) may.known ];
        shared = λ q t e. elim (cases q t e) [ inl before ↦ sound.shape.known.shared q t before | inr new ↦ subst (λ k. k < trace.shared_heaps) (sym new.1) may.heap ];
        scanned = sound.shape.known.scanned;
      };
    };
    names = record { ordered = sound.names.ordered; numbered = sound.names.numbered };
    no_dangling = record {
      directory = sound.no_dangling.directory;
      fields = sound.no_dangling.fields;
      registers = sound.no_dangling.registers;
      exits = sound.no_dangling.exits;
      scans = sound.no_dangling.scans;
      frozen = sound.no_dangling.frozen;
    };
    guarded = record { allowed = sound.guarded.allowed; listed = sound.guarded.listed };
    exits = record { leave = sound.exits.leave; allowed = sound.exits.allowed };
    gone = record {
      registers = sound.gone.registers;
      shares = λ q t ended. false_from_ne_true _ (λ e. elim (cases q t e) [
        | inl before ↦ false≢true (sym (sound.gone.shares q t ended) ∙ before)
        | inr new ↦ false≢true (sym may.lives ∙ ap (λ k. among k st.ended) (sym new.0) ∙ ended)
      ]);
      scans = sound.gone.scans;
      exits = sound.gone.exits;
      absorbed_shares = λ t e. false_from_ne_true _ (λ a. elim (sharer_cases st.shares p s t a) [
        | inl before ↦ false≢true (sym (sound.gone.absorbed_shares t e) ∙ before)
        | inr new ↦ may.stands (ap (phase_of st.phases) (sym new) ∙ e)
      ]);
      absorbed_exits = sound.gone.absorbed_exits;
    };
    phases = record {
      unmade_shares = λ t e. false_from_ne_true _ (λ a. elim (sharer_cases st.shares p s t a) [
        | inl before ↦ false≢true (sym (sound.phases.unmade_shares t e) ∙ before)
        | inr new ↦ may.made (ap (phase_of st.phases) (sym new) ∙ e)
      ]);
      unmade_objects = sound.phases.unmade_objects;
      populating = λ t q k e a. elim (cases k t a) [
        | inl before ↦ sound.phases.populating t q k e before
        | inr new ↦ new.0 ∙ may.populates q (ap (phase_of st.phases) (sym new.1) ∙ e)
      ];
      populated = λ t q e lives. share_kept st.shares p s q.0 t (sound.phases.populated t q e lives);
      frozen = sound.phases.frozen;
    };
    uses = may.fits;
    scans = record {
      own = sound.scans.own;
      recorded = λ h rs n o there at root. sound.scans.recorded h rs n o there at (ap (λ b. is_entered trace st n || b) (sym (held_same h n)) ∙ root);
      none_shared = sound.scans.none_shared;
    };
  }

-- no object is in the heap, so it has no bytes
pub bytes_none : (own : ℕ → Heap) (h : Heap) (xs : List Object) → ((n : Name) → IsTrue (has xs n) → own n.seg.0 ≢ h) → bytes_by own h xs ≡ 0
unfolding bytes_by
bytes_none own h [] none = refl
bytes_none own h (x ∷ xs) none =
    rw apart
    (bytes_none own h xs (λ n there. none n (or_right _ (has xs n) there)))
  where
    apart : heap_eq (own x.name.seg.0) h ≡ false
    apart = false_from_ne_true _ (λ e. none x.name (or_left _ (has xs x.name) (name_eq_refl x.name)) (heap_eq-true (own x.name.seg.0) h e))
