-- A spawn in both machines: one resize in the translation.
use Rattle.std.proofs.Common.{◌≡◌, ◌⊎◌, ◌∙◌, ℕ, ◌+◌, ◌<◌, ◌≤◌, ◌==◌, true, false, cond, List, [], ◌++◌, filter, get_or, get_or-set_other, set, Option, Some, None, refl, sym, ap, ap₂, subst, inl, inr, eq-eqb, eqb-true, IsTrue, IsFalse}
use Rattle.std.proofs.lemmas.Bool.{false≢true, or_cases, or_parts}
use Rattle.std.proofs.lemmas.List.{set-get_or}
use Rattle.k_types.specs.declared.event.Event.{Event}
use Rattle.k_types.specs.declared.op.Op.TheVariants.{Resize}
use Rattle.k_types.specs.Limits.{full_limit, is_ancestor, use_of}
use Rattle.k_types.specs.Names.{among}
use Rattle.k_types.specs.Owners.{bytes_of, charge_of, shared, user}
use Rattle.k_types.specs.Replies.{faults, first_fault, limit_fault, may_resize}
use Rattle.k_types.specs.State.{State}
use Rattle.k_types.specs.Steps.{IsLegalHistory, done_by}
use Rattle.k_types.specs.Totals.{total}
use Rattle.k_types.specs.Trace.{Trace}
use Rattle.k_types.specs.Updates.{count_done, set_max}
use Rattle.k_laws.proofs.Histories.{done_append}
use Rattle.k_spawn.specs.Families.{parent_of}
use Rattle.k_spawn.specs.Scripts.{Script, family, limit_for}
use Rattle.k_spawn.specs.Translation.{limit_id, translation}
use Rattle.k_spawn.specs.Tree.{Tree, after_spawn, full_at, given, trace_there}
use Rattle.k_spawn.proofs.ChildLimits.{limit_is}
use Rattle.k_spawn.proofs.ChildSteps.{child_full, resize_faults, unless_full}
use Rattle.k_spawn.proofs.ChildTree.{all_processes, child_limit_known, first_child, limit_same, over_child, over_is}
use Rattle.k_spawn.proofs.Level.{IsGone, IsLevel, IsLevelAt, IsPlaced, fits, no_charge, now, sound}
use Rattle.k_spawn.proofs.ReapStep.{ActsIn}
use Rattle.k_spawn.proofs.StopsAtHard.{KeepsUses, resized_keeps}
use Rattle.k_spawn.proofs.Twins.{twin, twins_if}
use Rattle.k_spawn.proofs.UnusedLimit.{unused}

module _ (s : Script) (placed : IsPlaced s) (t : Tree) (history : List Event) (level : IsLevel s t history) (p : ℕ) (known : p < all_processes s) (acts : ActsIn s t p)
    (c : ℕ) (low : first_child s ≤ c) (high : c < all_processes s) (parent : parent_of (family s) c ≡ p) (new : IsFalse (among c t.there)) (lives : IsFalse (among c (now s history).ended)) (lives_there : IsFalse (among c t.state.ended))
    (childless : (d : ℕ) → first_child s ≤ d → d < all_processes s → parent_of (family s) d ≡ c → IsFalse (among d t.there)) (max : ℕ) where
  abbrev a : Trace
  a = (translation s).trace

  abbrev x : State
  x = now s history

  abbrev m : ℕ
  m = limit_for s c

  -- the first limit that is full, from the parent's upwards
  abbrev pub full : Option ℕ
  full = full_limit a x (limit_for s p) max

  pub full_is : full_at s t p max ≡ full
  full_is = ap (λ z. full_limit (trace_there s t.there) z (limit_for s p) max) level.twins ∙ fits s placed t history level (limit_for s p) max

  may : IsTrue (may_resize a p m)
  may =
      ap (λ upper. is_ancestor a.limits upper m) (limit_is s p known)
      ∙ over_is s (limit_for s p) m (child_limit_known s c low high) (over_child s placed.limits.tree c (limit_for s p) low high (inl (ap (limit_for s) parent)))

  uncharged : charge_of a x c ≡ 0
  uncharged = go (level.absent c low high new).over
    where
      go : (IsTrue (among c x.ended) × IsTrue (among c t.state.ended)) ⊎ (done_by c history ≡ []) → charge_of a x c ≡ 0
      go (inl both) = ap (λ b. cond b 0 (bytes_of a x (user c) + total (λ e. bytes_of a x (shared e.heap)) (filter (λ e. e.process == c) x.shares))) both.0
      go (inr nothing) = no_charge s placed t history level c high nothing x.ended

  none_used : use_of a x m ≡ 0
  none_used = unused s placed x (sound s placed t history level).shape.sized.maxima c low high uncharged (λ d low_d high_d is. (level.absent d low_d high_d (childless d low_d high_d is)).maximum)

  pub fault_is : first_fault (faults a x p (Resize (limit_id s c) max)) ≡ limit_fault full
  fault_is =
      resize_faults a x p m max may none_used
      ∙ ap limit_fault (child_full s placed x (sound s placed t history level) c low high (level.absent c low high new).maximum max ∙ ap (λ q. full_limit a x (limit_for s q) max) parent)

  -- what the resize leaves, and the tree behind the spawn
  abbrev pub left_by : Option ℕ → State
  left_by o = count_done p (unless_full a x p o m max x)

  abbrev tree_by : Option ℕ → Tree
  tree_by o = after_spawn s c (given o max) t

  pub left_who : (o : Option ℕ) → (left_by o).ended ≡ x.ended
  unfolding count_done set_max
  left_who None = refl
  left_who (Some q) = refl

  pub tree_who : (o : Option ℕ) → (tree_by o).state.ended ≡ t.state.ended
  unfolding set_max
  tree_who o = refl

  left_maxima : (o : Option ℕ) (d : ℕ) → (d ≡ m → ⊥) → get_or (left_by o).maxima d 0 ≡ get_or x.maxima d 0
  unfolding count_done set_max
  left_maxima None d ne = get_or-set_other x.maxima m d max 0 ne
  left_maxima (Some q) d ne = refl

  left_twins : (o : Option ℕ) → (tree_by o).state ≡ twin (left_by o) t.state.ended t.state.done
  unfolding count_done set_max
  left_twins None = ap (set_max m max) level.twins
  left_twins (Some q) =
      ap (set_max m 0) level.twins
      ∙ ap (λ ms. record x { maxima = ms; ended = t.state.ended; done = t.state.done }) (ap (set x.maxima m) (sym (level.absent c low high new).maximum) ∙ set-get_or x.maxima m 0)

  -- the spawn moves no use outside
  pub left_keeps : first_child s ≤ p → (o : Option ℕ) → KeepsUses s p x (left_by o)
  unfolding count_done
  left_keeps low_p None = resized_keeps s placed p low_p known x c max (sound s placed t history level).shape.sized.maxima low high p parent low_p known (inl refl)
  left_keeps low_p (Some q) = λ m out. refl

  spawned_by : (o : Option ℕ) (events : List Event) → IsLegalHistory a (history ++ events) → ((q : ℕ) → (q ≡ p → ⊥) → done_by q events ≡ []) → IsLevelAt s (tree_by o) (left_by o) (history ++ events)
  spawned_by o events legal quiet = record {
    legal = legal;
    twins = twins_if (left_by o) (tree_by o).state t.state.ended t.state.done (left_twins o);
    header = λ q less. ap (among q) (tree_who o) ∙ level.header q less ∙ sym (ap (among q) (left_who o));
    present = λ d low_d high_d there. ap (among d) (tree_who o) ∙ here d low_d high_d (or_cases (c == d) (among d t.there) there) ∙ sym (ap (among d) (left_who o));
    absent = λ d low_d high_d away. let both = or_parts (c == d) (among d t.there) away in gone d low_d both.0 both.1 (level.absent d low_d high_d both.1);
  }
    where
      here : (d : ℕ) → first_child s ≤ d → d < all_processes s → ((c == d) ≡ true) ⊎ (among d t.there ≡ true) → among d t.state.ended ≡ among d x.ended
      here d low_d high_d (inl same) = let is : c ≡ d = eqb-true c d same in ap (λ k. among k t.state.ended) (sym is) ∙ lives_there ∙ sym lives ∙ ap (λ k. among k x.ended) is
      here d low_d high_d (inr there) = level.present d low_d high_d there

      gone : (d : ℕ) → first_child s ≤ d → (c == d) ≡ false → IsFalse (among d t.there) → IsGone s t x history d → IsGone s (tree_by o) (left_by o) (history ++ events) d
      gone d low_d ne away is = record {
        maximum = left_maxima o (limit_for s d) (λ same. false≢true (sym ne ∙ eq-eqb c d (sym (limit_same s placed.limited c d low same)))) ∙ is.maximum;
        over = go is.over;
      }
        where
          apart : d ≡ p → ⊥
          apart same = false≢true (sym away ∙ ap (λ k. among k t.there) same ∙ acts (subst (λ k. first_child s ≤ k) same low_d))

          go : (IsTrue (among d x.ended) × IsTrue (among d t.state.ended)) ⊎ (done_by d history ≡ []) → (IsTrue (among d (left_by o).ended) × IsTrue (among d (tree_by o).state.ended)) ⊎ (done_by d (history ++ events) ≡ [])
          go (inl both) = inl (ap (among d) (left_who o) ∙ both.0, ap (among d) (tree_who o) ∙ both.1)
          go (inr none) = inr (done_append d history events ∙ ap₂ (λ xs ys. xs ++ ys) none (quiet d apart))

  -- both are level behind the spawn
  pub spawned_level : (events : List Event) → IsLegalHistory a (history ++ events) → ((q : ℕ) → (q ≡ p → ⊥) → done_by q events ≡ []) → IsLevelAt s (after_spawn s c (given (full_at s t p max) max) t) (left_by full) (history ++ events)
  spawned_level events legal quiet = subst (λ o. IsLevelAt s (after_spawn s c (given o max) t) (left_by full) (history ++ events)) (sym full_is) (spawned_by full events legal quiet)
