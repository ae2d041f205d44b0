-- All orphans can be absorbed one after the other, and none is left.
use Rattle.std.proofs.Common.{◌≡◌, ◌≢◌, ℕ, ◌<◌, ◌==◌, ◌||◌, ◌&&◌, not, Bool, true, false, refl, sym, ap, ap₂, ◌∙◌, inl, inr, List, [], ◌∷◌, map, filter, length, get_or-set_same, get_or-set_other, eqb-true, eq-eqb, IsTrue, IsFalse}
use Rattle.std.proofs.lemmas.Bool.{false≢true, cases_Bool, or_left, or_right, or_parts, false_from_ne_true}
use Rattle.k_types.specs.declared.names.Heap.TheVariants.{Kernel}
use Rattle.k_types.specs.declared.names.Phase.TheVariants.{Unmade, Absorbed}
use Rattle.k_types.specs.declared.event.Event.{Event}
use Rattle.k_types.specs.declared.event.Event.TheVariants.{Absorbed as AbsorbedEvent}
use Rattle.k_types.specs.Names.{among}
use Rattle.k_types.specs.Numbers.{numbers_below}
use Rattle.k_types.specs.Trace.{Trace}
use Rattle.k_types.specs.State.{State, is_scanned}
use Rattle.k_types.specs.Owners.{phase_of}
use Rattle.k_types.specs.Updates.{set_phase, keep_exits}
use Rattle.k_types.specs.Effects.{step, after_absorbed}
use Rattle.k_types.specs.Steps.{IsRun, run, is_live, is_orphan, has_sharer, no_orphan, done_by}
use Rattle.k_types.specs.Sound.{IsSized}
use Rattle.k_types.specs.FileOrder.{absorptions}
use Rattle.k_types.proofs.Numbered.{AreDistinctNumbers, distinct_below, passes_below, listed_below, all_below}
use Rattle.k_laws.proofs.Sizes.{step_sized}

abbrev pub absorb : List ℕ → List Event
absorb ss = map (λ s. AbsorbedEvent (record { 0 = s })) ss

-- what a run of absorptions leaves
pub record Absorbs (trace : Trace) (st : State) (ss : List ℕ) : Type 0 where
  pub legal : IsRun trace st (absorb ss)
  pub scans : (run trace st (absorb ss)).scans ≡ st.scans
  pub ended : (run trace st (absorb ss)).ended ≡ st.ended
  pub done : (run trace st (absorb ss)).done ≡ st.done
  pub closed : (run trace st (absorb ss)).closed ≡ st.closed
  pub shares : (run trace st (absorb ss)).shares ≡ st.shares
  pub gone : (t : ℕ) → IsTrue (among t ss) → is_live (phase_of (run trace st (absorb ss)).phases t) ≡ false
  pub rest : (t : ℕ) → IsFalse (among t ss) → phase_of (run trace st (absorb ss)).phases t ≡ phase_of st.phases t

module _ (trace : Trace) where
  other_phase : (st : State) (s t : ℕ) → t ≢ s → phase_of (after_absorbed trace s st).phases t ≡ phase_of st.phases t
  unfolding after_absorbed set_phase keep_exits
  other_phase st s t ne = get_or-set_other st.phases s t Absorbed Unmade ne

  own_phase : (st : State) (s : ℕ) → s < length st.phases → phase_of (after_absorbed trace s st).phases s ≡ Absorbed
  unfolding after_absorbed set_phase keep_exits
  own_phase st s inside = get_or-set_same st.phases s Absorbed Unmade inside

  record Same (st su : State) : Type 0 where
    scans : su.scans ≡ st.scans
    ended : su.ended ≡ st.ended
    done : su.done ≡ st.done
    closed : su.closed ≡ st.closed
    shares : su.shares ≡ st.shares

  same_rest : (st : State) (s : ℕ) → Same st (after_absorbed trace s st)
  unfolding after_absorbed set_phase keep_exits
  same_rest st s = record { scans = refl; ended = refl; done = refl; closed = refl; shares = refl }

  absorb_step : (st : State) (s : ℕ) → step trace st (AbsorbedEvent (record { 0 = s })) ≡ after_absorbed trace s st
  unfolding step
  absorb_step st s = refl

  apart : (s t : ℕ) (ss : List ℕ) → IsFalse (among s ss) → IsTrue (among t ss) → t ≢ s
  apart s t ss new there e = false≢true (sym new ∙ ap (λ k. among k ss) (sym e) ∙ there)

  absorb_all : (ss : List ℕ) (st : State) → IsSized trace st → IsFalse (is_scanned st.scans Kernel) → AreDistinctNumbers ss → ((s : ℕ) → IsTrue (among s ss) → (s < trace.shared_heaps) × IsTrue (is_orphan st s)) → Absorbs trace st ss
  absorb_all [] st sized idle distinct orphans =
      record { legal = tt; scans = refl; ended = refl; done = refl; closed = refl; shares = refl; gone = λ t there. absurd (false≢true there); rest = λ t none. refl }
  absorb_all (s ∷ ss) st sized idle distinct orphans =
      let first = orphans s (or_left (s == s) (among s ss) (eq-eqb s s refl)) in
      let is = absorb_step st s in
      let same = same_rest st s in
      let inside : s < length st.phases = rw sized.phases first.0 in
      let now : State = step trace st (AbsorbedEvent (record { 0 = s })) in
      let later = absorb_all ss now (step_sized trace st (AbsorbedEvent (record { 0 = s })) sized)
      (ap (λ (su : State). is_scanned su.scans Kernel) is ∙ ap (λ scans. is_scanned scans Kernel) same.scans ∙ idle) distinct.1
      (λ t there.
      let was = orphans t (or_right (s == t) _ there) in (
        was.0,
        ap (λ (su : State). is_orphan su t) is
            ∙ ap₂ (λ phase shares. is_live phase && not (has_sharer shares t)) (other_phase st s t (apart s t ss distinct.0 there)) same.shares ∙ was.1,
      )) in
      record {
        legal = (record { known = first.0; orphan = first.1; idle = idle }, later.legal);
        scans = later.scans ∙ ap (λ (su : State). su.scans) is ∙ same.scans;
        ended = later.ended ∙ ap (λ (su : State). su.ended) is ∙ same.ended;
        done = later.done ∙ ap (λ (su : State). su.done) is ∙ same.done;
        closed = later.closed ∙ ap (λ (su : State). su.closed) is ∙ same.closed;
        shares = later.shares ∙ ap (λ (su : State). su.shares) is ∙ same.shares;
        gone = λ t there. elim (cases_Bool (among t ss)) [
          | inl more ↦ later.gone t more
          | inr none ↦
              let here : s ≡ t = eqb-true s t (first_of (s == t) (among t ss) there none) in
              ap is_live (later.rest t none ∙ ap (λ (su : State). phase_of su.phases t) is ∙ ap (phase_of (after_absorbed trace s st).phases) (sym here) ∙ own_phase st s inside)
        ];
        rest = λ t none.
            let both = or_parts (s == t) (among t ss) none in
            later.rest t both.1 ∙ ap (λ (su : State). phase_of su.phases t) is ∙ other_phase st s t (λ e. false≢true (sym both.0 ∙ eq-eqb s t (sym e)));
      }
    where
      first_of : (a b : Bool) → IsTrue (a || b) → IsFalse b → IsTrue a
      first_of true b t none = refl
      first_of false true t none = absurd (false≢true (sym none))
      first_of false false t none = t

  -- all orphans by rising number
  pub orphans_absorbed : (st : State) → IsSized trace st → IsFalse (is_scanned st.scans Kernel) → Absorbs trace st (filter (is_orphan st) (numbers_below trace.shared_heaps))
  orphans_absorbed st sized idle =
      absorb_all (filter (is_orphan st) (numbers_below trace.shared_heaps)) st sized idle (distinct_below (is_orphan st) trace.shared_heaps) (λ s there. passes_below (is_orphan st) trace.shared_heaps s there)

  pub none_left : (st : State) → IsSized trace st → IsFalse (is_scanned st.scans Kernel) → IsTrue (no_orphan trace (run trace st (absorptions trace st)))
  none_left st sized idle =
      let absorbed = orphans_absorbed st sized idle in
      all_below (λ s. not (is_orphan (run trace st (absorptions trace st)) s)) trace.shared_heaps (λ s inside. ap not (go absorbed s inside))
    where
      go : Absorbs trace st (filter (is_orphan st) (numbers_below trace.shared_heaps)) → (s : ℕ) → s < trace.shared_heaps → is_orphan (run trace st (absorptions trace st)) s ≡ false
      go absorbed s inside = elim (cases_Bool (is_orphan st s)) [
        | inl orphan ↦ ap (λ b. b && not (has_sharer (run trace st (absorptions trace st)).shares s)) (absorbed.gone s (listed_below (is_orphan st) trace.shared_heaps s inside orphan))
        | inr kept ↦
            let out = false_from_ne_true (among s (filter (is_orphan st) (numbers_below trace.shared_heaps))) (λ t. false≢true (sym kept ∙ (passes_below (is_orphan st) trace.shared_heaps s t).1)) in
            ap₂ (λ phase shares. is_live phase && not (has_sharer shares s)) (absorbed.rest s out) absorbed.shares ∙ kept
      ]

-- absorptions do no operations
pub none_done : (p : ℕ) (ss : List ℕ) → done_by p (absorb ss) ≡ []
none_done p [] = refl
none_done p (s ∷ ss) = none_done p ss
