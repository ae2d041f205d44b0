-- Lines in their time: a child is spawned by its parent, which was spawned before, and is reaped after that.
use Rattle.std.proofs.Common.{◌≡◌, ◌⊎◌, ◌∙◌, ℕ, ◌+◌, ◌<◌, ◌≤◌, ◌==◌, ◌&&◌, ◌||◌, not, Bool, true, false, List, [], ◌∷◌, ◌++◌, length, sym, ap, subst, inl, inr, le-leb, eqb-true, IsTrue, IsFalse}
use Rattle.std.specs.List.{AllByRecursion, list_any}
use Rattle.std.proofs.lemmas.Bool.{and_parts, false≢true, false_from_ne_true, leb-true, not-true, or_cases, or_left, or_right}
use Rattle.std.proofs.lemmas.List.Folds.{list_any-append}
use Rattle.k_types.specs.Names.{among}
use Rattle.k_types.proofs.Charges.{or_none}
use Rattle.k_spawn.specs.declared.script.Deed.{Deed}
use Rattle.k_spawn.specs.declared.script.Deed.TheVariants.{Does, Spawns, Reaps}
use Rattle.k_spawn.specs.declared.script.ScriptLine.{ScriptLine}
use Rattle.k_spawn.specs.Courses.{IsDeedOf}
use Rattle.k_spawn.specs.Families.{Family, is_child, parent_of, reaped_with}
use Rattle.k_spawn.specs.Scripts.{Script, family}
use Rattle.k_spawn.specs.Timely.{has_left, is_due, is_of_parent, is_running, reaps, spawns, was_reaped, was_spawned, exits}
use Rattle.k_spawn.proofs.KeptSoFar.{AllInTime, IsGoodLine, IsInTime}
use Rattle.k_spawn.proofs.ReapedOrder.{down_list, parent_in_list}

-- the line is good, and stands in its time behind those before it
pub record IsTimely (s : Script) (before : List ScriptLine) (l : ScriptLine) : Type 0 where
  pub good : IsGoodLine s.header.trace (family s) l
  pub time : IsInTime (family s) before l

-- each of these lines stands in its time behind those before it
abbrev pub AreTimely : Script → List ScriptLine → List ScriptLine → Type 0
AreTimely s before [] = Unit {0}
AreTimely s before (l ∷ ls) = IsTimely s before l × AreTimely s (before ++ l ∷ []) ls

pub all_timely : (s : Script) (before lines : List ScriptLine) → AllByRecursion (IsGoodLine s.header.trace (family s)) lines → AllInTime (family s) before lines → AreTimely s before lines
all_timely s before [] good time = tt
all_timely s before (l ∷ ls) good time = (record { good = good.0; time = time.0 }, all_timely s (before ++ l ∷ []) ls good.1 time.1)

-- one line more
one_more : (test : ScriptLine → Bool) (before : List ScriptLine) (l : ScriptLine) → list_any test (before ++ l ∷ []) ≡ (list_any test before || test l)
one_more test before l = list_any-append test before (l ∷ []) ∙ ap (λ b. list_any test before || b) (or_none (test l))

pub spawned_more : (before : List ScriptLine) (l : ScriptLine) (c : ℕ) → was_spawned (before ++ l ∷ []) c ≡ (was_spawned before c || spawns c l.deed)
spawned_more before l c = one_more (λ k. spawns c k.deed) before l

pub reaped_more : (f : Family) (before : List ScriptLine) (l : ScriptLine) (c : ℕ) → was_reaped f (before ++ l ∷ []) c ≡ (was_reaped f before c || reaps f c l.deed)
reaped_more f before l c = one_more (λ k. reaps f c k.deed) before l

pub left_more : (before : List ScriptLine) (l : ScriptLine) (p : ℕ) → has_left (before ++ l ∷ []) p ≡ (has_left before p || ((l.pid.0 == p) && exits l.deed))
left_more before l p = one_more (λ k. (k.pid.0 == p) && exits k.deed) before l

-- what is so of spawned and reaped children behind timely lines
pub record IsLineage (f : Family) (before : List ScriptLine) : Type 0 where
  pub spawned : (d : ℕ) → IsTrue (was_spawned before d) → f.first ≤ parent_of f d → IsTrue (was_spawned before (parent_of f d))
  pub reaped : (d : ℕ) → IsTrue (was_reaped f before d) → IsFalse (was_spawned before d) → (f.first ≤ parent_of f d) × IsTrue (was_reaped f before (parent_of f d))
  pub child : (d : ℕ) → IsTrue (was_reaped f before d) → f.first ≤ d
  pub left : (d : ℕ) → IsTrue (has_left before d) → f.first ≤ d → IsTrue (was_spawned before d)
  pub known : (d : ℕ) → IsTrue (was_spawned before d) → d < f.first + length f.parents

pub no_lineage : (f : Family) → IsLineage f []
no_lineage f = record {
  spawned = λ d t low. absurd (false≢true t);
  reaped = λ d t none. absurd (false≢true t);
  child = λ d t. absurd (false≢true t);
  left = λ d t low. absurd (false≢true t);
  known = λ d t. absurd (false≢true t);
}

-- a child that runs was spawned and not reaped
pub running_child : (f : Family) (before : List ScriptLine) (p : ℕ) → f.first ≤ p → IsTrue (is_running f before p) → IsTrue (was_spawned before p) × IsFalse (was_reaped f before p)
running_child f before p low t =
    let both = and_parts (was_spawned before p) (not (was_reaped f before p)) (go (is_child f p) (le-leb f.first p low) t) in
    (both.0, not-true (was_reaped f before p) both.1)
  where
    go : (b : Bool) → b ≡ true → IsTrue (not b || (was_spawned before p && not (was_reaped f before p))) → IsTrue (was_spawned before p && not (was_reaped f before p))
    go true e t = t
    go false e t = absurd (false≢true e)

-- the process of a parent's deed is the parent
pub parent_here : (f : Family) (p c : ℕ) → IsTrue (is_child f c && (parent_of f c == p)) → (f.first ≤ c) × (parent_of f c ≡ p)
parent_here f p c t = let both = and_parts (is_child f c) (parent_of f c == p) t in (leb-true f.first c both.0, eqb-true (parent_of f c) p both.1)

module _ (s : Script) (before : List ScriptLine) (l : ScriptLine) (timely : IsTimely s before l) (old : IsLineage (family s) before) where
  abbrev f : Family
  f = family s

  spawned_by : (deed : Deed) (d : ℕ) → IsTrue (is_of_parent f l.pid.0 deed) → IsTrue (spawns d deed) → f.first ≤ parent_of f d → IsTrue (was_spawned before (parent_of f d))
  spawned_by (Does op) d parent t low = absurd (false≢true t)
  spawned_by (Reaps c) d parent t low = absurd (false≢true t)
  spawned_by (Spawns c max) d parent t low =
      let same : c.0 ≡ d = eqb-true c.0 d t in
      let is : parent_of f c.0 ≡ l.pid.0 = (parent_here f l.pid.0 c.0 parent).1 in
      let here : l.pid.0 ≡ parent_of f d = sym is ∙ ap (parent_of f) same in
      let low' : f.first ≤ l.pid.0 = subst (λ n. f.first ≤ n) (sym here) low in
      subst (λ n. IsTrue (was_spawned before n)) here (running_child f before l.pid.0 low' timely.time.running).0

  -- whom a reaping takes along was spawned, or its parent is reaped too
  reaped_by : (deed : Deed) (d : ℕ) → IsTrue (is_of_parent f l.pid.0 deed) → IsTrue (is_due f before deed) → IsTrue (reaps f d deed) → IsFalse (was_spawned before d) →
      (f.first ≤ parent_of f d) × IsTrue (reaps f (parent_of f d) deed)
  reaped_by (Does op) d parent due t none = absurd (false≢true t)
  reaped_by (Spawns c max) d parent due t none = absurd (false≢true t)
  reaped_by (Reaps c) d parent due t none =
      let low = (parent_here f l.pid.0 c.0 parent).0 in
      let up : IsTrue (among (parent_of f d) (reaped_with f c.0)) = parent_in_list f (length s.parents) c.0 d
      (λ same. false≢true (sym none ∙ ap (was_spawned before) (sym same) ∙ (and_parts (was_spawned before c.0) (not (was_reaped f before c.0)) due).0)) t in
      (down_list f (λ n. f.first ≤ n) (λ a b lower high is here. lower) (length s.parents) c.0 (parent_of f d) low up, up)

  known_by : (deed : Deed) (d : ℕ) → IsDeedOf f deed → IsTrue (spawns d deed) → d < f.first + length f.parents
  known_by (Does op) d is t = absurd (false≢true t)
  known_by (Reaps c) d is t = absurd (false≢true t)
  known_by (Spawns c max) d is t = subst (λ n. n < f.first + length f.parents) (eqb-true c.0 d t) is

  child_by : (deed : Deed) (d : ℕ) → IsTrue (is_of_parent f l.pid.0 deed) → IsTrue (reaps f d deed) → f.first ≤ d
  child_by (Does op) d parent t = absurd (false≢true t)
  child_by (Spawns c max) d parent t = absurd (false≢true t)
  child_by (Reaps c) d parent t = down_list f (λ n. f.first ≤ n) (λ a b lower high is here. lower) (length s.parents) c.0 d (parent_here f l.pid.0 c.0 parent).0 t

  pub lineage_more : IsLineage f (before ++ l ∷ [])
  lineage_more = record {
    spawned = λ d t low. spawned_more before l (parent_of f d) ∙ or_left _ _ (spawned_old d low (or_cases (was_spawned before d) (spawns d l.deed) (sym (spawned_more before l d) ∙ t)));
    reaped = λ d t none. reaped_new d (or_cases (was_reaped f before d) (reaps f d l.deed) (sym (reaped_more f before l d) ∙ t)) (unspawned d none);
    child = λ d t. child_new d (or_cases (was_reaped f before d) (reaps f d l.deed) (sym (reaped_more f before l d) ∙ t));
    known = λ d t. known_new d (or_cases (was_spawned before d) (spawns d l.deed) (sym (spawned_more before l d) ∙ t));
    left = λ d t low. spawned_more before l d ∙ or_left _ _ (left_new d low (or_cases (has_left before d) ((l.pid.0 == d) && exits l.deed) (sym (left_more before l d) ∙ t)));
  }
    where
      spawned_old : (d : ℕ) → f.first ≤ parent_of f d → IsTrue (was_spawned before d) ⊎ IsTrue (spawns d l.deed) → IsTrue (was_spawned before (parent_of f d))
      spawned_old d low (inl t) = old.spawned d t low
      spawned_old d low (inr t) = spawned_by l.deed d timely.time.of_parent t low

      unspawned : (d : ℕ) → IsFalse (was_spawned (before ++ l ∷ []) d) → IsFalse (was_spawned before d)
      unspawned d none = false_from_ne_true (was_spawned before d) (λ t. false≢true (sym none ∙ spawned_more before l d ∙ or_left _ _ t))

      reaped_new : (d : ℕ) → IsTrue (was_reaped f before d) ⊎ IsTrue (reaps f d l.deed) → IsFalse (was_spawned before d) → (f.first ≤ parent_of f d) × IsTrue (was_reaped f (before ++ l ∷ []) (parent_of f d))
      reaped_new d (inl t) none = let was = old.reaped d t none in (was.0, reaped_more f before l (parent_of f d) ∙ or_left _ _ was.1)
      reaped_new d (inr t) none = let now = reaped_by l.deed d timely.time.of_parent timely.time.due t none in (now.0, reaped_more f before l (parent_of f d) ∙ or_right (was_reaped f before (parent_of f d)) _ now.1)

      known_new : (d : ℕ) → IsTrue (was_spawned before d) ⊎ IsTrue (spawns d l.deed) → d < f.first + length f.parents
      known_new d (inl t) = old.known d t
      known_new d (inr t) = known_by l.deed d timely.good.deed t

      left_new : (d : ℕ) → f.first ≤ d → IsTrue (has_left before d) ⊎ IsTrue ((l.pid.0 == d) && exits l.deed) → IsTrue (was_spawned before d)
      left_new d low (inl t) = old.left d t low
      left_new d low (inr t) =
          let same : l.pid.0 ≡ d = eqb-true l.pid.0 d (and_parts (l.pid.0 == d) (exits l.deed) t).0 in
          subst (λ n. IsTrue (was_spawned before n)) same (running_child f before l.pid.0 (subst (λ n. f.first ≤ n) (sym same) low) timely.time.running).0

      child_new : (d : ℕ) → IsTrue (was_reaped f before d) ⊎ IsTrue (reaps f d l.deed) → f.first ≤ d
      child_new d (inl t) = old.child d t
      child_new d (inr t) = child_by l.deed d timely.time.of_parent t

-- whom its parent may spawn was not reaped
pub unreaped : (s : Script) (before : List ScriptLine) (p c : ℕ) → IsLineage (family s) before → parent_of (family s) c ≡ p → IsTrue (is_running (family s) before p) → IsFalse (was_spawned before c) → IsFalse (was_reaped (family s) before c)
unreaped s before p c old is running none = false_from_ne_true (was_reaped (family s) before c) (λ t.
    let up = old.reaped c t none in
    let low : (family s).first ≤ p = subst (λ n. (family s).first ≤ n) is up.0 in
    false≢true (sym (running_child (family s) before p low running).1 ∙ ap (was_reaped (family s) before) (sym is) ∙ up.1))
