-- Line by line: both machines stay level, each line is answered alike, and the order of the file goes line by line.
use Rattle.std.proofs.Common.{◌≡◌, ◌⊎◌, ◌∙◌, ℕ, ◌<◌, ◌≤◌, ◌==◌, ◌&&◌, ◌||◌, not, Bool, true, false, cond, List, [], ◌∷◌, ◌++◌, drop, map, get_or, refl, sym, ap, ap₂, subst, inl, inr, eq-eqb, eqb-true, IsTrue, IsFalse}
use Rattle.std.proofs.lemmas.Bool.{and_left, and_parts, false≢true, false_from_ne_true, not-true, or_cases, or_left, or_right}
use Rattle.std.proofs.lemmas.List.{append_assoc, append-nil, append_cancel_left}
use Rattle.k_types.specs.declared.event.Event.{Event}
use Rattle.k_types.specs.declared.op.Op.{Op}
use Rattle.k_types.specs.FileOrder.{file_order_from, last_events}
use Rattle.k_types.specs.Names.{among}
use Rattle.k_types.specs.State.{State, opening}
use Rattle.k_types.specs.Steps.{run}
use Rattle.k_types.specs.Trace.{Trace, operations_of, process_count}
use Rattle.k_types.specs.TraceRules.{AreOperations}
use Rattle.k_laws.proofs.Histories.{run_append}
use Rattle.k_laws.proofs.Lines.{Ready}
use Rattle.k_spawn.specs.declared.script.Deed.{Deed}
use Rattle.k_spawn.specs.declared.script.Deed.TheVariants.{Does, Spawns, Reaps}
use Rattle.k_spawn.specs.declared.script.ScriptLine.{ScriptLine}
use Rattle.k_spawn.specs.Agreement.{events_of_lines, line_events}
use Rattle.k_spawn.specs.Courses.{IsDeedOf}
use Rattle.k_spawn.specs.Families.{parent_of}
use Rattle.k_spawn.specs.Scripts.{Script, family}
use Rattle.k_spawn.specs.Timely.{exits, has_left, is_due, is_of_parent, is_running, reaps, spawns, was_reaped, was_spawned}
use Rattle.k_spawn.specs.Translation.{operations_in, operations_of_deed, order_of, translation}
use Rattle.k_spawn.specs.Tree.{Tree, tree_after, tree_after_lines}
use Rattle.k_spawn.proofs.Gathered.{processes_are}
use Rattle.k_spawn.proofs.ChildTree.{all_processes, first_child}
use Rattle.k_spawn.proofs.KeptSoFar.{IsGoodDeed}
use Rattle.k_spawn.proofs.Level.{IsLevel, IsLevelAt, IsPlaced, now}
use Rattle.k_spawn.proofs.LineStep.{ComeNext, Stepped, does, reaps_child, spawns_child}
use Rattle.k_spawn.proofs.ReapStep.{ActsIn}
use Rattle.k_spawn.proofs.TimelyLines.{AreTimely, IsLineage, IsTimely, left_more, lineage_more, parent_here, reaped_more, running_child, spawned_more, unreaped}

-- what holds behind some lines, where these come next
pub record IsBehind (s : Script) (before rest : List ScriptLine) (t : Tree) (history : List Event) : Type 0 where
  pub level : IsLevel s t history
  pub ready : Ready (translation s).trace (now s history) (order_of s rest)
  pub left : (q : ℕ) → q < process_count (translation s).trace → drop (get_or (now s history).done q 0) (operations_of (translation s).trace q) ≡ operations_in s rest q
  pub lineage : IsLineage (family s) before
  pub ended : (q : ℕ) → IsTrue (among q (now s history).ended) → IsTrue (has_left before q || was_reaped (family s) before q)
  pub tree_ended : (q : ℕ) → IsTrue (among q t.state.ended) → IsTrue (has_left before q || was_reaped (family s) before q)
  pub there : (q : ℕ) → among q t.there ≡ (was_spawned before q && not (was_reaped (family s) before q))

module _ (s : Script) (placed : IsPlaced s) (rules : AreOperations (translation s).trace) where
  abbrev a : Trace
  a = (translation s).trace

  module _ (before rest : List ScriptLine) (p : ℕ) (deed : Deed) (t : Tree) (history : List Event) (behind : IsBehind s before (record { pid = record { 0 = p }; deed = deed } ∷ rest) t history)
      (timely : IsTimely s before (record { pid = record { 0 = p }; deed = deed })) where
    abbrev l : ScriptLine
    l = record { pid = record { 0 = p }; deed = deed }

    abbrev x : State
    x = now s history

    acts : ActsIn s t p
    acts low = let is = running_child (family s) before p low timely.time.running in behind.there p ∙ ap₂ (λ b c. b && not c) is.0 is.1

    unreaped_here : IsFalse (was_reaped (family s) before p)
    unreaped_here = false_from_ne_true _ (λ u. let low = behind.lineage.child p u in false≢true (sym (running_child (family s) before p low timely.time.running).1 ∙ u))

    lives : IsFalse (among p x.ended)
    lives = false_from_ne_true _ (λ u. false≢true (sym (ap₂ (λ b c. b || c) timely.time.goes_on unreaped_here) ∙ behind.ended p u))

    -- its operations come next
    comes : (ops : List Op) → operations_of_deed s deed ≡ ops → ComeNext s placed rules t history behind.level p timely.good.process acts (order_of s rest) (operations_in s rest p) lives ops
    comes ops e = record {
      ready = subst (λ os. Ready a x (map (λ op. p) os ++ order_of s rest)) e behind.ready;
      todo =
          behind.left p (subst (λ n. p < n) (sym (processes_are s)) timely.good.process)
          ∙ ap (λ b. cond b (operations_of_deed s deed) [] ++ operations_in s rest p) (eq-eqb p p refl)
          ∙ ap (λ os. os ++ operations_in s rest p) e;
    }

    -- a child that its parent spawns did nothing, and none of its children is there
    not_ended : (c : ℕ) (ended : List ℕ) → ((q : ℕ) → IsTrue (among q ended) → IsTrue (has_left before q || was_reaped (family s) before q)) → first_child s ≤ c → parent_of (family s) c ≡ p → IsFalse (was_spawned before c) → IsFalse (among c ended)
    not_ended c ended is low parent none = false_from_ne_true _ (λ u. elim (or_cases (has_left before c) (was_reaped (family s) before c) (is c u)) [
      | inl gone ↦ false≢true (sym none ∙ behind.lineage.left c gone low)
      | inr gone ↦ false≢true (sym (unreaped s before p c behind.lineage parent timely.time.running none) ∙ gone)
    ])

    childless : (c : ℕ) → first_child s ≤ c → IsFalse (was_spawned before c) → (d : ℕ) → first_child s ≤ d → d < all_processes s → parent_of (family s) d ≡ c → IsFalse (among d t.there)
    childless c low none d low_d high_d is = false_from_ne_true _ (λ u.
        let spawned = (and_parts (was_spawned before d) (not (was_reaped (family s) before d)) (sym (behind.there d) ∙ u)).0 in
        false≢true (sym none ∙ ap (was_spawned before) (sym is) ∙ behind.lineage.spawned d spawned (subst (λ n. first_child s ≤ n) (sym is) low)))

    by_deed : (d : Deed) → deed ≡ d → IsDeedOf (family s) d → IsGoodDeed s.header.trace d → IsTrue (is_of_parent (family s) p d) → IsTrue (is_due (family s) before d) → Stepped s t x history (record { pid = record { 0 = p }; deed = d }) (order_of s rest)
    by_deed (Does op) e is good parent due =
        does s placed rules t history behind.level p timely.good.process acts (order_of s rest) (operations_in s rest p) lives op good.2 (comes (operations_of_deed s (Does op)) (ap (operations_of_deed s) e))
    by_deed (Spawns c max) e is good parent due =
        let here = parent_here (family s) p c.0 parent in
        let none = not-true (was_spawned before c.0) due in
        spawns_child s placed rules t history behind.level p timely.good.process acts (order_of s rest) (operations_in s rest p) lives c.0 max here.0 is here.1
        (behind.there c.0 ∙ and_left _ _ none)
        (not_ended c.0 x.ended behind.ended here.0 here.1 none)
        (not_ended c.0 t.state.ended behind.tree_ended here.0 here.1 none)
        (childless c.0 here.0 none) (comes (operations_of_deed s (Spawns c max)) (ap (operations_of_deed s) e))
    by_deed (Reaps c) e is good parent due =
        let here = parent_here (family s) p c.0 parent in
        reaps_child s placed rules t history behind.level p timely.good.process acts (order_of s rest) (operations_in s rest p) lives c.0 here.0 is here.1 (comes (operations_of_deed s (Reaps c)) (ap (operations_of_deed s) e))

    pub stepped : Stepped s t x history l (order_of s rest)
    stepped = by_deed deed refl timely.good.deed timely.good.good timely.time.of_parent timely.time.due

    abbrev events : List Event
    events = line_events s x l

    pub now_is : now s (history ++ events) ≡ run a x events
    now_is = run_append a (opening a) history events

    -- one line more
    pub behind_more : IsBehind s (before ++ l ∷ []) rest (tree_after s t p deed) (history ++ events)
    behind_more = record {
      level = subst (λ z. IsLevelAt s (tree_after s t p deed) z (history ++ events)) (sym now_is) stepped.level;
      ready = subst (λ z. Ready a z (order_of s rest)) (sym now_is) stepped.ran.ready;
      left = λ q less. subst (λ (z : State). drop (get_or z.done q 0) (operations_of a q) ≡ operations_in s rest q) (sym now_is)
          (append_cancel_left (cond (p == q) (operations_of_deed s deed) []) _ (operations_in s rest q) (stepped.ran.left q less ∙ behind.left q less));
      lineage = lineage_more s before l timely behind.lineage;
      ended = λ q u. more _ q (or_cases _ _ (stepped.ended q (ap (λ (z : State). among q z.ended) (sym now_is) ∙ u))) (behind.ended q);
      tree_ended = λ q u. more _ q (or_cases _ _ (stepped.tree_ended q u)) (behind.tree_ended q);
      there = λ q.
          stepped.there q ∙ ap (λ b. (b || spawns q deed) && not (reaps (family s) q deed)) (behind.there q)
          ∙ both (was_spawned before q) (was_reaped (family s) before q) (spawns q deed) (reaps (family s) q deed) (apart q deed timely.time.of_parent timely.time.running timely.time.due)
          ∙ sym (ap₂ (λ b c. b && not c) (spawned_more before l q) (reaped_more (family s) before l q));
    }
      where
        more : (old : Bool) (q : ℕ) → IsTrue old ⊎ IsTrue (((p == q) && exits deed) || reaps (family s) q deed) → (IsTrue old → IsTrue (has_left before q || was_reaped (family s) before q)) →
            IsTrue (has_left (before ++ l ∷ []) q || was_reaped (family s) (before ++ l ∷ []) q)
        more old q new was = ap₂ (λ b c. b || c) (left_more before l q) (reaped_more (family s) before l q) ∙ go new
          where
            old_one : IsTrue (has_left before q) ⊎ IsTrue (was_reaped (family s) before q) → IsTrue ((has_left before q || ((p == q) && exits deed)) || (was_reaped (family s) before q || reaps (family s) q deed))
            old_one (inl t) = or_left _ _ (or_left _ _ t)
            old_one (inr t) = or_right (has_left before q || ((p == q) && exits deed)) _ (or_left _ _ t)

            new_one : IsTrue ((p == q) && exits deed) ⊎ IsTrue (reaps (family s) q deed) → IsTrue ((has_left before q || ((p == q) && exits deed)) || (was_reaped (family s) before q || reaps (family s) q deed))
            new_one (inl t) = or_left _ _ (or_right (has_left before q) _ t)
            new_one (inr t) = or_right (has_left before q || ((p == q) && exits deed)) _ (or_right (was_reaped (family s) before q) _ t)

            go : IsTrue old ⊎ IsTrue (((p == q) && exits deed) || reaps (family s) q deed) → IsTrue ((has_left before q || ((p == q) && exits deed)) || (was_reaped (family s) before q || reaps (family s) q deed))
            go (inl t) = old_one (or_cases (has_left before q) (was_reaped (family s) before q) (was t))
            go (inr t) = new_one (or_cases ((p == q) && exits deed) (reaps (family s) q deed) t)

        -- whoever is spawned was not reaped before
        apart : (q : ℕ) (d : Deed) → IsTrue (is_of_parent (family s) p d) → IsTrue (is_running (family s) before p) → IsTrue (is_due (family s) before d) → IsTrue (spawns q d) → IsFalse (was_reaped (family s) before q)
        apart q (Does op) parent running due t = absurd (false≢true t)
        apart q (Reaps c) parent running due t = absurd (false≢true t)
        apart q (Spawns c max) parent running due t =
            ap (was_reaped (family s) before) (sym (eqb-true c.0 q t)) ∙ unreaped s before p c.0 behind.lineage (parent_here (family s) p c.0 parent).1 running (not-true (was_spawned before c.0) due)

        both : (b r n g : Bool) → (IsTrue n → IsFalse r) → (((b && not r) || n) && not g) ≡ ((b || n) && not (r || g))
        both b true true g none = absurd (false≢true (sym (none refl)))
        both true true false g none = refl
        both false true false g none = refl
        both true false n g none = refl
        both false false n g none = refl

  -- behind more lines
  pub behind_all : (more before rest : List ScriptLine) (t : Tree) (history : List Event) → AreTimely s before (more ++ rest) → IsBehind s before (more ++ rest) t history →
      IsBehind s (before ++ more) rest (tree_after_lines s t more) (history ++ events_of_lines s (now s history) more)
  behind_all [] before rest t history timely behind =
      subst (λ h. IsBehind s (before ++ []) rest t h) (sym (append-nil history)) (subst (λ ls. IsBehind s ls rest t history) (sym (append-nil before)) behind)
  behind_all (l ∷ more) before rest t history timely behind =
      let events : List Event = line_events s (now s history) l in
      let next = behind_more before (more ++ rest) l.pid.0 l.deed t history behind timely.0 in
      let is = now_is before (more ++ rest) l.pid.0 l.deed t history behind timely.0 in
      let all = behind_all more (before ++ l ∷ []) rest (tree_after s t l.pid.0 l.deed) (history ++ line_events s (now s history) l) timely.1 next in
      subst (λ h. IsBehind s (before ++ l ∷ more) rest (tree_after_lines s t (l ∷ more)) h)
      (append_assoc history (line_events s (now s history) l) (events_of_lines s (now s (history ++ line_events s (now s history) l)) more)
      ∙ ap (λ (z : State). history ++ (line_events s (now s history) l ++ events_of_lines s z more)) is)
      (subst (λ ls. IsBehind s ls rest (tree_after_lines s t (l ∷ more)) ((history ++ line_events s (now s history) l) ++ events_of_lines s (now s (history ++ line_events s (now s history) l)) more)) (append_assoc before (l ∷ []) more) all)

  -- the order of the file goes line by line
  pub filed_from : (more before : List ScriptLine) (t : Tree) (history : List Event) → AreTimely s before more → IsBehind s before more t history →
      file_order_from a (now s history) (order_of s more) ≡ events_of_lines s (now s history) more ++ last_events a (run a (now s history) (events_of_lines s (now s history) more))
  unfolding file_order_from
  filed_from [] before t history timely behind = refl
  filed_from (l ∷ more) before t history timely behind =
      let events : List Event = line_events s (now s history) l in
      let next = behind_more before more l.pid.0 l.deed t history behind timely.0 in
      let is = now_is before more l.pid.0 l.deed t history behind timely.0 in
      let here = (stepped before more l.pid.0 l.deed t history behind timely.0).ran.filed in
      let rest = filed_from more (before ++ l ∷ []) (tree_after s t l.pid.0 l.deed) (history ++ line_events s (now s history) l) timely.1 next in
      let z : State = run a (now s history) (line_events s (now s history) l) in
      let there : file_order_from a z (order_of s more) ≡ events_of_lines s z more ++ last_events a (run a z (events_of_lines s z more)) =
      subst (λ (y : State). file_order_from a y (order_of s more) ≡ events_of_lines s y more ++ last_events a (run a y (events_of_lines s y more))) is rest in
      here
      ∙ ap (λ es. events ++ es) there
      ∙ sym (append_assoc events (events_of_lines s z more) (last_events a (run a z (events_of_lines s z more))))
      ∙ ap (λ (y : State). (events ++ events_of_lines s z more) ++ last_events a y) (sym (run_append a (now s history) events (events_of_lines s z more)))
