-- The end of one child in both machines: a kill and a resize in the translation.
use Rattle.std.proofs.Common.{◌≡◌, ◌⊎◌, ◌∙◌, ℕ, zero, suc, ◌<◌, ◌≤◌, ◌==◌, ◌&&◌, ◌||◌, not, Bool, true, false, cond, List, [], ◌∷◌, ◌++◌, filter, get_or, set, refl, sym, ap, ap₂, subst, arith, inl, inr, eq-eqb, eqb-true, ne_eqb, IsTrue, IsFalse}
use Rattle.std.proofs.lemmas.Bool.{and_parts, cases_Bool, cases_eq, false≢true, not-true, or_left, or_right}
use Rattle.std.proofs.lemmas.List.{set-get_or}
use Rattle.k_types.specs.declared.event.Event.{Event}
use Rattle.k_types.specs.Effects.{after_end_of, after_kill}
use Rattle.k_types.specs.Names.{among}
use Rattle.k_types.specs.State.{State}
use Rattle.k_types.specs.Steps.{IsLegalHistory, done_by}
use Rattle.k_types.specs.Trace.{Trace}
use Rattle.k_types.specs.Updates.{count_done, set_max}
use Rattle.k_types.proofs.Lists.{get_or-set_cases}
use Rattle.k_laws.proofs.Histories.{done_append}
use Rattle.k_laws.proofs.Kept.{any-kept}
use Rattle.k_laws.proofs.Rest.{kill_rest}
use Rattle.k_types.proofs.Charges.{or_none}
use Rattle.k_spawn.specs.Scripts.{Script, limit_for}
use Rattle.k_spawn.specs.Translation.{translation}
use Rattle.k_spawn.specs.Tree.{Tree, after_reap, trace_there}
use Rattle.k_spawn.proofs.ChildTree.{all_processes, first_child}
use Rattle.k_spawn.proofs.KilledChild.{ended_one, kill_twin, killed_who, nothing_ends, with_ended}
use Rattle.k_spawn.proofs.Level.{IsGone, IsLevel, IsLevelAt, IsPlaced, alike, known_in, now, sound}
use Rattle.k_spawn.proofs.Twins.{AreTwins, twin, twins_if}
use Rattle.k_spawn.proofs.Unborn.{no_exits, unborn}

and_all : (b : Bool) → (b && true) ≡ b
and_all true = refl
and_all false = refl

pub zero_set : (xs : List ℕ) (m : ℕ) → get_or (set xs m 0) m 0 ≡ 0
zero_set [] m = refl
zero_set (x ∷ xs) zero = refl
zero_set (x ∷ xs) (suc m) = zero_set xs m

ended_already : (trace : Trace) (x : State) (c : ℕ) → IsTrue (among c x.ended) → after_kill trace c x ≡ record x { ended = with_ended x.ended c }
unfolding after_kill
ended_already trace x c t = ap (λ b. cond b x (after_end_of trace c x)) t ∙ ap (λ b. record x { ended = cond b x.ended (x.ended ++ c ∷ []) }) (sym t)

-- the process acts in the tree: it is one of the header, or a child that is there
abbrev pub ActsIn : Script → Tree → ℕ → Type 0
ActsIn s t p = first_child s ≤ p → IsTrue (among p t.there)

module _ (s : Script) (placed : IsPlaced s) (t : Tree) (history : List Event) (level : IsLevel s t history) (p : ℕ) (acts : ActsIn s t p)
    (c : ℕ) (low : first_child s ≤ c) (high : c < all_processes s) (other : c ≡ p → ⊥) where
  abbrev a : Trace
  a = (translation s).trace

  abbrev x : State
  x = now s history

  abbrev m : ℕ
  m = limit_for s c

  -- the state that a kill and a resize leave, and the tree behind them
  abbrev pub final : State
  final = count_done p (set_max m 0 (count_done p (after_kill a c x)))

  abbrev u : Tree
  u = after_reap s t c

  pub final_maxima : final.maxima ≡ set x.maxima m 0
  unfolding count_done set_max
  final_maxima = ap (λ (z : State). set z.maxima m 0) (kill_rest a x c)

  pub final_who : (q : ℕ) → among q final.ended ≡ (among q x.ended || (c == q))
  unfolding count_done set_max
  final_who q = ap (among q) (killed_who a x c) ∙ ended_one x.ended c q

  abbrev gone : Type 0
  gone = IsFalse (among c t.there)

  same_tree : gone → u ≡ t
  same_tree away = ap (λ b. cond b (record { state = set_max m 0 (after_kill (trace_there s t.there) c t.state); there = filter (λ d. not (d == c)) t.there }) t) away

  abbrev new_tree : Tree
  new_tree = record { state = set_max m 0 (after_kill (trace_there s t.there) c t.state); there = filter (λ d. not (d == c)) t.there }

  other_tree : IsTrue (among c t.there) → u ≡ new_tree
  other_tree there = ap (λ b. cond b (record { state = set_max m 0 (after_kill (trace_there s t.there) c t.state); there = filter (λ d. not (d == c)) t.there }) t) there

  new_twin : IsTrue (among c t.there) → new_tree.state ≡ twin final (with_ended t.state.ended c) t.state.done
  unfolding set_max count_done
  new_twin there =
      ap (λ (z : State). set_max m 0 (after_kill (trace_there s t.there) c z)) level.twins
      ∙ ap (set_max m 0) (kill_twin a (trace_there s t.there).limits x t.state.ended t.state.done (alike s placed t history level) c (level.present c low high there))

  quiet_kill : gone → after_kill a c x ≡ record x { ended = with_ended x.ended c }
  quiet_kill away = go (level.absent c low high away).over
    where
      go : (IsTrue (among c x.ended) × IsTrue (among c t.state.ended)) ⊎ (done_by c history ≡ []) → after_kill a c x ≡ record x { ended = with_ended x.ended c }
      go (inl both) = ended_already a x c both.0
      go (inr nothing) = nothing_ends a x (sound s placed t history level) c (unborn a c history (known_in s placed t history level c high) nothing) (no_exits a c history level.legal nothing)

  old_twin : gone → t.state ≡ twin final t.state.ended t.state.done
  unfolding set_max count_done
  old_twin away =
      level.twins
      ∙ ap (λ maxima. record x { maxima = maxima; ended = t.state.ended; done = t.state.done }) (sym (ap (set x.maxima m) (sym (level.absent c low high away).maximum) ∙ set-get_or x.maxima m 0))
      ∙ ap (λ (z : State). twin (count_done p (set_max m 0 (count_done p z))) t.state.ended t.state.done) (sym (quiet_kill away))

  pub tree_twins : AreTwins final u.state
  tree_twins = elim (cases_Bool (among c t.there)) [
    | inl there ↦ subst (λ (v : Tree). AreTwins final v.state) (sym (other_tree there)) (twins_if final new_tree.state (with_ended t.state.ended c) t.state.done (new_twin there))
    | inr away ↦ subst (λ (v : Tree). AreTwins final v.state) (sym (same_tree away)) (twins_if final t.state t.state.ended t.state.done (old_twin away))
  ]

  pub tree_who : (q : ℕ) → among q u.state.ended ≡ (among q t.state.ended || (among c t.there && (c == q)))
  tree_who q = elim (cases_Bool (among c t.there)) [
    | inl there ↦
        ap (λ (v : Tree). among q v.state.ended) (other_tree there) ∙ ap (λ (z : State). among q z.ended) (new_twin there) ∙ ended_one t.state.ended c q
        ∙ ap (λ b. among q t.state.ended || (b && (c == q))) (sym there)
    | inr away ↦
        ap (λ (v : Tree). among q v.state.ended) (same_tree away) ∙ sym (or_none (among q t.state.ended))
        ∙ ap (λ b. among q t.state.ended || (b && (c == q))) (sym away)
  ]

  pub tree_there : (q : ℕ) → among q u.there ≡ (among q t.there && not (q == c))
  tree_there q = elim (cases_Bool (among c t.there)) [
    | inl there ↦ ap (λ (v : Tree). among q v.there) (other_tree there) ∙ any-kept (λ k. k == q) (λ d. not (d == c)) q (λ k e. eqb-true k q e) t.there
    | inr away ↦ ap (λ (v : Tree). among q v.there) (same_tree away) ∙ stays away (q == c) refl
  ]
    where
      stays : IsFalse (among c t.there) → (b : Bool) → (q == c) ≡ b → among q t.there ≡ (among q t.there && not b)
      stays away false e = sym (and_all (among q t.there))
      stays away true e = let none : among q t.there ≡ false = ap (λ k. among k t.there) (eqb-true q c e) ∙ away in none ∙ sym (ap (λ b. b && false) none)

  -- whoever is another ends in none of them
  others_who : (q : ℕ) → (c ≡ q → ⊥) → among q t.state.ended ≡ among q x.ended → among q u.state.ended ≡ among q final.ended
  others_who q ne same =
      tree_who q ∙ ap (λ b. among q t.state.ended || (among c t.there && b)) (ne_eqb c q ne) ∙ ap (λ b. among q t.state.ended || b) (none (among c t.there)) ∙ or_none (among q t.state.ended)
      ∙ same ∙ sym (final_who q ∙ ap (λ b. among q x.ended || b) (ne_eqb c q ne) ∙ or_none (among q x.ended))
    where
      none : (b : Bool) → (b && false) ≡ false
      none true = refl
      none false = refl

  -- so both are level behind the events of the end
  pub reaped_level : (events : List Event) → IsLegalHistory a (history ++ events) → ((q : ℕ) → (q ≡ p → ⊥) → done_by q events ≡ []) → IsLevelAt s u final (history ++ events)
  reaped_level events legal quiet = record {
    legal = legal;
    twins = tree_twins;
    header = λ q less. others_who q (λ same. absurd (omega (arith, less, low, same))) (level.header q less);
    present = λ d low_d high_d there. let both = and_parts (among d t.there) (not (d == c)) (sym (tree_there d) ∙ there) in
        others_who d (λ same. false≢true (sym (not-true (d == c) both.1) ∙ eq-eqb d c (sym same))) (level.present d low_d high_d both.0);
    absent = λ d low_d high_d away. elim (cases_eq c d) [
      | inl same ↦ subst (IsGone s u final (history ++ events)) same (own (cases_Bool (among c t.there)))
      | inr ne ↦ elsewhere d ne (level.absent d low_d high_d (before d ne away)) (acts_apart d low_d (before d ne away))
    ];
  }
    where
      before : (d : ℕ) → (c ≡ d → ⊥) → IsFalse (among d u.there) → IsFalse (among d t.there)
      before d ne away = sym (and_all (among d t.there)) ∙ ap (λ b. among d t.there && not b) (sym (ne_eqb d c (λ e. ne (sym e)))) ∙ sym (tree_there d) ∙ away

      acts_apart : (d : ℕ) → first_child s ≤ d → IsFalse (among d t.there) → d ≡ p → ⊥
      acts_apart d low_d away same = false≢true (sym away ∙ ap (λ k. among k t.there) same ∙ acts (subst (λ k. first_child s ≤ k) same low_d))

      more : (d : ℕ) → done_by d history ≡ [] → (d ≡ p → ⊥) → done_by d (history ++ events) ≡ []
      more d none apart = done_append d history events ∙ ap₂ (λ xs ys. xs ++ ys) none (quiet d apart)

      elsewhere : (d : ℕ) → (c ≡ d → ⊥) → IsGone s t x history d → (d ≡ p → ⊥) → IsGone s u final (history ++ events) d
      elsewhere d ne is apart = record {
        maximum = ap (λ ms. get_or ms (limit_for s d) 0) final_maxima ∙ (elim (get_or-set_cases x.maxima m (limit_for s d) 0 0) [ inl e ↦ e ∙ is.maximum | inr e ↦ e.1 ]);
        over = go is.over;
      }
        where
          go : (IsTrue (among d x.ended) × IsTrue (among d t.state.ended)) ⊎ (done_by d history ≡ []) → (IsTrue (among d final.ended) × IsTrue (among d u.state.ended)) ⊎ (done_by d (history ++ events) ≡ [])
          go (inl both) = inl (final_who d ∙ or_left _ _ both.0, tree_who d ∙ or_left _ _ both.1)
          go (inr none) = inr (more d none apart)

      own : IsTrue (among c t.there) ⊎ IsFalse (among c t.there) → IsGone s u final (history ++ events) c
      own there = record { maximum = ap (λ ms. get_or ms m 0) final_maxima ∙ zero_set x.maxima m; over = go there }
        where
          ends : IsTrue (among c final.ended)
          ends = final_who c ∙ or_right (among c x.ended) _ (eq-eqb c c refl)

          go : IsTrue (among c t.there) ⊎ IsFalse (among c t.there) → (IsTrue (among c final.ended) × IsTrue (among c u.state.ended)) ⊎ (done_by c (history ++ events) ≡ [])
          go (inl there) = inl (ends, tree_who c ∙ ap₂ (λ b d. among c t.state.ended || (b && d)) there (eq-eqb c c refl) ∙ or_right (among c t.state.ended) true refl)
          go (inr away) = was (level.absent c low high away).over
            where
              was : (IsTrue (among c x.ended) × IsTrue (among c t.state.ended)) ⊎ (done_by c history ≡ []) → (IsTrue (among c final.ended) × IsTrue (among c u.state.ended)) ⊎ (done_by c (history ++ events) ≡ [])
              was (inl both) = inl (ends, tree_who c ∙ or_left _ _ both.1)
              was (inr none) = inr (more c none other)
