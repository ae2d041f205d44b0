-- The sixth point by its test.
use Rattle.std.proofs.Common.{◌≡◌, ◌∙◌, ◌↔◌, ◌&&◌, ℕ, true, List, refl, sym, ap, subst, eq-eqb, eqb-true}
use Rattle.std.specs.Prelude.{IsTrue, IsFalse}
use Rattle.std.specs.List.{list_all}
use Rattle.std.proofs.lemmas.Bool.{and_from, and_parts, false≢true, false_from_ne_true}
use Rattle.k_types.specs.declared.names.Heap.{Heap}
use Rattle.k_types.specs.declared.names.Heap.TheVariants.{Kernel, User, Shared}
use Rattle.k_types.specs.declared.names.Name.{Name}
use Rattle.k_types.specs.declared.names.Pid.{Pid}
use Rattle.k_types.specs.declared.names.Phase.{Phase}
use Rattle.k_types.specs.declared.names.Phase.TheVariants.{Unmade, Populating, Frozen, Absorbed}
use Rattle.k_types.specs.Names.{among, name_eq}
use Rattle.k_types.specs.Owners.{owner_of, phase_of, shared}
use Rattle.k_types.specs.Sound.{ArePhases, IsSized}
use Rattle.k_types.specs.State.{Object, Sharing, State, has, has_share}
use Rattle.k_types.specs.Steps.{has_sharer}
use Rattle.k_types.specs.Trace.{Trace}
use Rattle.k_types.proofs.NameTests.{heap_eq-same, heap_eq-true, name_eq-true, name_eq_refl}
use Rattle.k_types.proofs.Numbered.{all_below}
use Rattle.k_audit.specs.Tests.{all_phases_fit, is_made, object_fits, owner_made, phase_fits, phases_agree, share_fits, sharer_fits}
use Rattle.k_audit.proofs.Means.{all_say, said_of_all, or_where}
use Rattle.k_audit.proofs.DanglingLaw.{phase_at}
use Rattle.k_audit.proofs.GoneLaw.{sharers_say, shares_hold, shares_say}
use Rattle.k_types.proofs.Shares.{sharer_of}
use Rattle.k_types.proofs.Tests.{or_second}

-- ---- sharers

-- the phase allows the sharer
abbrev allowed : State → ℕ × ℕ → Type 0
allowed st pair = sharer_fits (phase_of st.phases pair.1) pair.0 ≡ true

not_unmade : (phase : Phase) (p : ℕ) → sharer_fits phase p ≡ true → phase ≡ Unmade → ⊥
not_unmade Unmade p ok is = absurd (false≢true ok)
not_unmade (Populating q) p ok is = absurd cc
not_unmade (Frozen root) p ok is = absurd cc
not_unmade Absorbed p ok is = absurd cc

the_maker : (phase : Phase) (p : ℕ) (q : Pid) → sharer_fits phase p ≡ true → phase ≡ Populating q → p ≡ q.0
the_maker phase p q ok is = eqb-true p q.0 (subst (λ (x : Phase). sharer_fits x p ≡ true) is ok)

sharer_holds : (phase : Phase) (p : ℕ) → (phase ≡ Unmade → ⊥) → ((q : Pid) → phase ≡ Populating q → p ≡ q.0) → sharer_fits phase p ≡ true
sharer_holds Unmade p made maker = absurd (made refl)
sharer_holds (Populating q) p made maker = eq-eqb p q.0 (maker q refl)
sharer_holds (Frozen root) p made maker = refl
sharer_holds Absorbed p made maker = refl

-- ---- owners

owner_says : (phases : List Phase) (h : Heap) (s : ℕ) → owner_made phases h ≡ true → h ≡ shared s → phase_of phases s ≡ Unmade → ⊥
owner_says phases h s ok is unmade =
    false≢true (sym (ap is_made unmade) ∙ subst (λ (g : Heap). owner_made phases g ≡ true) is ok)

made_holds : (phase : Phase) → (phase ≡ Unmade → ⊥) → is_made phase ≡ true
made_holds Unmade made = absurd (made refl)
made_holds (Populating q) made = refl
made_holds (Frozen root) made = refl
made_holds Absorbed made = refl

owner_holds : (phases : List Phase) (h : Heap) → ((s : ℕ) → h ≡ shared s → phase_of phases s ≡ Unmade → ⊥) → owner_made phases h ≡ true
owner_holds phases Kernel each = refl
owner_holds phases (User p) each = refl
owner_holds phases (Shared s) each = made_holds (phase_of phases s.0) (each s.0 refl)

-- no unmade heap owns the name
abbrev is_owned : (ℕ → Heap) → List Phase → Name → Type 0
is_owned own phases n = (s : ℕ) → own n.seg.0 ≡ shared s → phase_of phases s ≡ Unmade → ⊥

objects_say : (own : ℕ → Heap) (phases : List Phase) (objects : List Object) → list_all (object_fits own phases) objects ≡ true → (n : Name) → has objects n ≡ true → is_owned own phases n
objects_say own phases objects all n there =
    all_say {A = Object} {N = Name} (λ m o. name_eq o.name m) (is_owned own phases) (object_fits own phases)
    (λ o m ok same. subst (is_owned own phases) (name_eq-true o.name m same) (λ s is unmade. owner_says phases (own o.name.seg.0) s ok is unmade)) objects all n there

objects_hold : (own : ℕ → Heap) (phases : List Phase) (objects : List Object) → ((n : Name) → has objects n ≡ true → is_owned own phases n) → list_all (object_fits own phases) objects ≡ true
objects_hold own phases objects each =
    said_of_all {A = Object} {N = Name} (λ m o. name_eq o.name m) (is_owned own phases) (object_fits own phases)
    (λ o holds. owner_holds phases (own o.name.seg.0) (holds o.name (name_eq_refl o.name))) objects each

-- ---- phases

phase_holds : (own : ℕ → Heap) (ended : List ℕ) (shares : List Sharing) (s : ℕ) (phase : Phase) → ((q : Pid) → phase ≡ Populating q → IsFalse (among q.0 ended) → IsTrue (has_share shares q.0 s)) →
    ((root : Name) → phase ≡ Frozen root → own root.seg.0 ≡ shared s) → phase_fits own ended shares s phase ≡ true
phase_holds own ended shares s Unmade populated frozen = refl
phase_holds own ended shares s (Populating q) populated frozen = or_where (among q.0 ended) (has_share shares q.0 s) (populated q refl)
phase_holds own ended shares s (Frozen root) populated frozen = heap_eq-same (own root.seg.0) (shared s) (frozen root refl)
phase_holds own ended shares s Absorbed populated frozen = refl

-- ---- the point

pub phases_law : (trace : Trace) (st : State) → IsSized trace st → (phases_agree trace st ≡ true) ↔ ArePhases trace st
phases_law trace st sized =
    let own = owner_of trace st in (
      λ all.
          let a = and_parts (list_all (share_fits st.phases) st.shares && list_all (object_fits own st.phases) st.objects) (all_phases_fit trace st) all in
          let b = and_parts (list_all (share_fits st.phases) st.shares) (list_all (object_fits own st.phases) st.objects) a.0 in
          let fits = shares_say (allowed st) (share_fits st.phases) (λ e ok. ok) st.shares b.0 in
          record {
            unmade_shares = λ s unmade. false_from_ne_true (has_sharer st.shares s) (λ there.
                sharers_say (λ t. phase_of st.phases t ≡ Unmade → ⊥) (share_fits st.phases) (λ e ok is. not_unmade (phase_of st.phases e.heap) e.process ok is) st.shares b.0 s there unmade);
            unmade_objects = λ s n unmade there is. objects_say own st.phases st.objects b.1 n there s is unmade;
            populating = λ s q p is there. the_maker (phase_of st.phases s) p q (fits p s there) is;
            populated = λ s q is lives.
                or_second (among q.0 st.ended) (has_share st.shares q.0 s)
                (phase_at trace st sized (phase_fits own st.ended st.shares) a.1 s (Populating q) is (λ e. absurd cc)) lives;
            frozen = λ s root is. heap_eq-true (own root.seg.0) (shared s) (phase_at trace st sized (phase_fits own st.ended st.shares) a.1 s (Frozen root) is (λ e. absurd cc));
          },
      λ holds.
          and_from (list_all (share_fits st.phases) st.shares && list_all (object_fits own st.phases) st.objects) (all_phases_fit trace st)
          (and_from (list_all (share_fits st.phases) st.shares) (list_all (object_fits own st.phases) st.objects)
          (shares_hold (allowed st) (share_fits st.phases) (λ e ok. ok) st.shares
          (λ p s there.
          sharer_holds (phase_of st.phases s) p
          (λ unmade. false≢true (sym (holds.unmade_shares s unmade) ∙ sharer_of st.shares p s there))
          (λ q is. holds.populating s q p is there)))
          (objects_hold own st.phases st.objects (λ n there s is unmade. holds.unmade_objects s n unmade there is)))
          (all_below (λ s. phase_fits own st.ended st.shares s (phase_of st.phases s)) trace.shared_heaps (λ s inside.
          phase_holds own st.ended st.shares s (phase_of st.phases s) (λ q is lives. holds.populated s q is lives) (λ root is. holds.frozen s root is))),
    )
