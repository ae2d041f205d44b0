-- A reaping, child by child: both machines stay level, and each operation is answered ok.
use Rattle.std.proofs.Common.{◌≡◌, ◌⊎◌, ◌∙◌, ℕ, ◌+◌, ◌<◌, ◌≤◌, ◌==◌, ◌&&◌, ◌||◌, not, Bool, true, false, cond, List, [], ◌∷◌, ◌++◌, drop, filter, length, map, get_or, set, Some, None, refl, sym, ap, ap₂, subst, inl, inr, eq-eqb, eqb-true, ne_eqb, IsTrue, IsFalse}
use Rattle.std.specs.List.{AllByRecursion, flat_map}
use Rattle.std.proofs.lemmas.Bool.{cases_eq, false≢true, or_cases, or_left, or_right}
use Rattle.std.proofs.lemmas.List.{append_assoc, append-nil}
use Rattle.k_types.specs.declared.event.Event.{Event}
use Rattle.k_types.specs.declared.event.Reply.TheVariants.{Done as DoneReply}
use Rattle.k_types.specs.declared.op.Op.{Op}
use Rattle.k_types.specs.declared.op.Op.TheVariants.{Kill, Resize}
use Rattle.k_types.specs.Effects.{after_kill}
use Rattle.k_types.specs.FileOrder.{events_of}
use Rattle.k_types.specs.Limits.{is_above, is_ancestor, use_of}
use Rattle.k_types.specs.Names.{among}
use Rattle.k_types.specs.Owners.{bytes_of, shared, user}
use Rattle.k_types.specs.Replies.{faults, first_fault, limit_fault, may_resize}
use Rattle.k_types.specs.State.{State, opening}
use Rattle.k_types.specs.Steps.{done_by, run}
use Rattle.k_types.specs.Totals.{total}
use Rattle.k_types.specs.Trace.{Trace, operations_of, process_count}
use Rattle.k_types.specs.TraceRules.{AreOperations}
use Rattle.k_types.specs.Updates.{count_done, set_max}
use Rattle.k_types.proofs.Lists.{get_or-set_cases}
use Rattle.k_laws.proofs.Histories.{done_append, legal_append, run_append}
use Rattle.k_laws.proofs.Rest.{kill_rest}
use Rattle.k_laws.proofs.Lines.{Ready}
use Rattle.k_spawn.specs.Agreement.{events_for, replies_in}
use Rattle.k_spawn.specs.Families.{children_of, parent_of}
use Rattle.k_spawn.specs.Scripts.{Script, family, limit_for}
use Rattle.k_spawn.specs.Translation.{ending, limit_id, translation}
use Rattle.k_spawn.specs.Tree.{Tree, after_reap, after_reaps}
use Rattle.k_spawn.proofs.ChildLimits.{limit_is}
use Rattle.k_spawn.proofs.ChildSteps.{kill_said, killed, resize_faults, resize_said, resized, zero_full}
use Rattle.k_spawn.proofs.ChildTree.{IsOver, all_processes, child_limit_known, first_child, over_is}
use Rattle.k_spawn.proofs.KilledChild.{ended_one, killed_who}
use Rattle.k_spawn.proofs.Level.{IsLevelAt, IsPlaced, now}
use Rattle.k_spawn.proofs.OneOperation.{IsNext, next_is, one_done}
use Rattle.k_spawn.proofs.ReapStep.{ActsIn, final, final_maxima, final_who, reaped_level, tree_there, tree_who, zero_set}
use Rattle.k_spawn.proofs.ReapedOrder.{ComeAfter, of_child}
use Rattle.k_spawn.proofs.Running.{Ran, left_own, ran_more, ran_nothing}
use Rattle.k_spawn.proofs.StopsAtHard.{KeepsUses, killed_keeps, resized_keeps}
use Rattle.k_spawn.proofs.UnusedLimit.{unused}

module _ (s : Script) (placed : IsPlaced s) (rules : AreOperations (translation s).trace) (p : ℕ) (known : p < process_count (translation s).trace) (known_here : p < all_processes s) where
  abbrev a : Trace
  a = (translation s).trace

  -- a child below the process, which is another
  pub record IsBelow (c : ℕ) : Type 0 where
    pub low : first_child s ≤ c
    pub high : c < all_processes s
    pub other : c ≡ p → ⊥
    pub over : IsOver s (limit_for s p) (limit_for s c)
    pub up : (parent_of (family s) c ≡ p) ⊎ ((first_child s ≤ parent_of (family s) c) × (parent_of (family s) c < all_processes s) × IsOver s (limit_for s p) (limit_for s (parent_of (family s) c)))

  abbrev pub ending_of : List ℕ → List Op
  ending_of cs = flat_map (ending s) cs

  abbrev pub events : State → List ℕ → List Event
  events z cs = events_for a z p (flat_map (ending s) cs)

  -- what a reaping leaves
  pub record Reaped (t : Tree) (history : List Event) (cs : List ℕ) (order : List ℕ) (z : State) : Type 0 where
    pub ran : Ran a z p (flat_map (ending s) cs) order (events z cs)
    pub level : IsLevelAt s (after_reaps s t cs) (run a z (events z cs)) (history ++ events z cs)
    pub said : AllByRecursion (λ r. r ≡ DoneReply) (replies_in (events z cs))
    pub ended : (q : ℕ) → IsTrue (among q (run a z (events z cs)).ended) → IsTrue (among q z.ended || among q cs)
    pub tree_ended : (q : ℕ) → IsTrue (among q (after_reaps s t cs).state.ended) → IsTrue (among q t.state.ended || among q cs)
    pub there : (q : ℕ) → among q (after_reaps s t cs).there ≡ (among q t.there && not (among q cs))
    pub uses : first_child s ≤ p → KeepsUses s p z (run a z (events z cs))

  -- what holds before it: those before have no maximum
  pub record MayReap (t : Tree) (history : List Event) (cs before : List ℕ) (order : List ℕ) (rest : List Op) (z : State) : Type 0 where
    pub level : IsLevelAt s t z history
    pub ready : Ready a z (map (λ op. p) (flat_map (ending s) cs) ++ order)
    pub lives : IsFalse (among p z.ended)
    pub todo : drop (get_or z.done p 0) (operations_of a p) ≡ flat_map (ending s) cs ++ rest
    pub dead : (d : ℕ) → IsTrue (among d before) → get_or z.maxima (limit_for s d) 0 ≡ 0

  above_is : (c : ℕ) → IsBelow c → IsTrue (is_above a p c)
  above_is c is = ap₂ (λ upper lower. is_ancestor a.limits upper lower) (limit_is s p known_here) (limit_is s c is.high) ∙ over_is s (limit_for s p) (limit_for s c) (child_limit_known s c is.low is.high) is.over

  may_is : (c : ℕ) → IsBelow c → IsTrue (may_resize a p (limit_for s c))
  may_is c is = ap (λ upper. is_ancestor a.limits upper (limit_for s c)) (limit_is s p known_here) ∙ over_is s (limit_for s p) (limit_for s c) (child_limit_known s c is.low is.high) is.over

  -- one child
  module _ (t : Tree) (history : List Event) (acts : ActsIn s t p) (c : ℕ) (cs before : List ℕ) (order : List ℕ) (rest : List Op) (may : MayReap t history (c ∷ cs) before order rest (now s history)) (is : IsBelow c)
      (after : (d : ℕ) → IsTrue (among d (children_of (family s) c)) → IsTrue (among d before)) where
    abbrev x : State
    x = now s history

    abbrev kills : Op
    kills = Kill (record { 0 = c })

    abbrev resizes : Op
    resizes = Resize (limit_id s c) 0

    abbrev behind : List ℕ
    behind = map (λ op. p) (flat_map (ending s) cs) ++ order

    next_kill : IsNext a x p kills (p ∷ behind)
    next_kill = next_is a rules x p kills (resizes ∷ ending_of cs ++ rest) (p ∷ behind) may.ready known may.lives may.todo

    abbrev e1 : List Event
    e1 = events_of a x p (Some kills)

    abbrev x1 : State
    x1 = run a x e1

    x1_is : x1 ≡ count_done p (after_kill a c x)
    x1_is = killed a x p c (above_is c is)

    x1_who : (q : ℕ) → among q x1.ended ≡ (among q x.ended || (c == q))
    unfolding count_done
    x1_who q = ap (λ (z : State). among q z.ended) x1_is ∙ ap (among q) (killed_who a x c) ∙ ended_one x.ended c q

    x1_maxima : x1.maxima ≡ x.maxima
    unfolding count_done
    x1_maxima = ap (λ (z : State). z.maxima) x1_is ∙ ap (λ (z : State). z.maxima) (kill_rest a x c)

    lives1 : IsFalse (among p x1.ended)
    lives1 = x1_who p ∙ ap₂ (λ g h. g || h) may.lives (ne_eqb c p is.other)

    todo1 : drop (get_or x1.done p 0) (operations_of a p) ≡ resizes ∷ ending_of cs ++ rest
    todo1 = left_own a x p kills (resizes ∷ ending_of cs ++ rest) (p ∷ behind) known next_kill may.todo

    next_resize : IsNext a x1 p resizes behind
    next_resize = next_is a rules x1 p resizes (ending_of cs ++ rest) behind next_kill.ready known lives1 todo1

    abbrev e2 : List Event
    e2 = events_of a x1 p (Some resizes)

    abbrev x2 : State
    x2 = run a x1 e2

    unused1 : use_of a x1 (limit_for s c) ≡ 0
    unused1 = unused s placed x1 next_kill.ready.sized.maxima c is.low is.high
        (ap (λ b. cond b 0 (bytes_of a x1 (user c) + total (λ e. bytes_of a x1 (shared e.heap)) (filter (λ e. e.process == c) x1.shares))) (x1_who c ∙ or_right (among c x.ended) _ (eq-eqb c c refl)))
        (λ d low high parent. ap (λ ms. get_or ms (limit_for s d) 0) x1_maxima ∙ may.dead d (after d (of_child (family s) c d low high parent)))

    fine : first_fault (faults a x1 p resizes) ≡ limit_fault None
    fine = resize_faults a x1 p (limit_for s c) 0 (may_is c is) unused1 ∙ ap limit_fault (zero_full a x1 (limit_for s c))

    x1_sized : length (count_done p (after_kill a c x)).maxima ≡ length a.limits
    x1_sized = ap (λ (z : State). length z.maxima) (sym x1_is) ∙ next_kill.ready.sized.maxima

    x2_uses : first_child s ≤ p → KeepsUses s p (count_done p (after_kill a c x)) (count_done p (set_max (limit_for s c) 0 (count_done p (after_kill a c x))))
    x2_uses low_p = go is.up
      where
        go : (parent_of (family s) c ≡ p) ⊎ ((first_child s ≤ parent_of (family s) c) × (parent_of (family s) c < all_processes s) × IsOver s (limit_for s p) (limit_for s (parent_of (family s) c))) →
            KeepsUses s p (count_done p (after_kill a c x)) (count_done p (set_max (limit_for s c) 0 (count_done p (after_kill a c x))))
        go (inl e) = resized_keeps s placed p low_p known_here (count_done p (after_kill a c x)) c 0 x1_sized is.low is.high p e low_p known_here (inl refl)
        go (inr above) = resized_keeps s placed p low_p known_here (count_done p (after_kill a c x)) c 0 x1_sized is.low is.high (parent_of (family s) c) refl above.0 above.1 (inr above.2)

    abbrev last : State
    last = final s placed t history may.level p acts c is.low is.high is.other

    x2_is : x2 ≡ last
    x2_is = resized a x1 p (limit_for s c) 0 None fine ∙ ap (λ (z : State). count_done p (set_max (limit_for s c) 0 z)) x1_is

    now_is : now s (history ++ (e1 ++ e2)) ≡ x2
    now_is = run_append a (opening a) history (e1 ++ e2) ∙ run_append a x e1 e2

    quiet : (q : ℕ) → (q ≡ p → ⊥) → done_by q (e1 ++ e2) ≡ []
    quiet q ne =
        done_append q e1 e2 ∙ ap₂ (λ xs ys. xs ++ ys) (one_done a x p kills q) (one_done a x1 p resizes q)
        ∙ ap (λ b. cond b (kills ∷ []) [] ++ cond b (resizes ∷ []) []) (ne_eqb p q (λ e. ne (sym e)))

    level1 : IsLevelAt s (after_reap s t c) x2 (history ++ (e1 ++ e2))
    level1 = subst (λ z. IsLevelAt s (after_reap s t c) z (history ++ (e1 ++ e2))) (sym x2_is)
        (reaped_level s placed t history may.level p acts c is.low is.high is.other (e1 ++ e2) (legal_append a (opening a) history (e1 ++ e2) may.level.legal (legal_append a x e1 e2 next_kill.legal next_resize.legal)) quiet)

    x2_who : (q : ℕ) → among q x2.ended ≡ (among q x.ended || (c == q))
    x2_who q = ap (λ (z : State). among q z.ended) x2_is ∙ final_who s placed t history may.level p acts c is.low is.high is.other q

    x2_maxima : x2.maxima ≡ set x.maxima (limit_for s c) 0
    x2_maxima = ap (λ (z : State). z.maxima) x2_is ∙ final_maxima s placed t history may.level p acts c is.low is.high is.other

    may1 : MayReap (after_reap s t c) (history ++ (e1 ++ e2)) cs (c ∷ before) order rest x2
    may1 = record {
      level = level1;
      ready = next_resize.ready;
      lives = x2_who p ∙ ap₂ (λ g h. g || h) may.lives (ne_eqb c p is.other);
      todo = left_own a x1 p resizes (ending_of cs ++ rest) behind known next_resize todo1;
      dead = λ d there. ap (λ ms. get_or ms (limit_for s d) 0) x2_maxima ∙ gone d (or_cases (c == d) (among d before) there);
    }
      where
        gone : (d : ℕ) → ((c == d) ≡ true) ⊎ (among d before ≡ true) → get_or (set x.maxima (limit_for s c) 0) (limit_for s d) 0 ≡ 0
        gone d (inl here) = ap (λ k. get_or (set x.maxima (limit_for s c) 0) (limit_for s k) 0) (sym (eqb-true c d here)) ∙ zero_set x.maxima (limit_for s c)
        gone d (inr there) = elim (get_or-set_cases x.maxima (limit_for s c) (limit_for s d) 0 0) [ inl e ↦ e ∙ may.dead d there | inr e ↦ e.1 ]

    acts1 : ActsIn s (after_reap s t c) p
    acts1 low = tree_there s placed t history may.level p acts c is.low is.high is.other p ∙ ap₂ (λ b g. b && not g) (acts low) (ne_eqb p c (λ e. is.other (sym e)))

    -- and the others behind it
    joined : Reaped (after_reap s t c) (history ++ (e1 ++ e2)) cs order x2 → Reaped t history (c ∷ cs) order x
    joined more = record {
      ran = ran_more a p order x kills (resizes ∷ ending_of cs) (e2 ++ events x2 cs) next_kill (ran_more a p order x1 resizes (ending_of cs) (events x2 cs) next_resize more.ran);
      level = subst (λ z. IsLevelAt s (after_reaps s t (c ∷ cs)) z (history ++ events x (c ∷ cs))) (sym all)
          (subst (λ h. IsLevelAt s (after_reaps s t (c ∷ cs)) (run a x2 (events x2 cs)) h) regroup more.level);
      said = (kill_said a x p c (above_is c is), (resize_said a x1 p (limit_for s c) 0 None fine, more.said));
      ended = λ q t. more_ended q (or_cases (among q x2.ended) (among q cs) (more.ended q (ap (λ (z : State). among q z.ended) (sym all) ∙ t)));
      tree_ended = λ q u. more_tree q (or_cases (among q (after_reap s t c).state.ended) (among q cs) (more.tree_ended q u));
      there = λ q. more.there q ∙ ap (λ b. b && not (among q cs)) (tree_there s placed t history may.level p acts c is.low is.high is.other q) ∙ both (among q t.there) (q == c) (c == q) (among q cs) (turned q);
      uses = λ low_p m out.
          ap (λ z. use_of a z m) all ∙ more.uses low_p m out ∙ ap (λ z. use_of a z m) x2_is
          ∙ x2_uses low_p m out ∙ killed_keeps s placed p low_p known_here x c is.low is.high (inr is.over) m out;
    }
      where
        all : run a x (events x (c ∷ cs)) ≡ run a x2 (events x2 cs)
        all = run_append a x e1 (e2 ++ events x2 cs) ∙ run_append a x1 e2 (events x2 cs)

        regroup : (history ++ (e1 ++ e2)) ++ events x2 cs ≡ history ++ events x (c ∷ cs)
        regroup = append_assoc history (e1 ++ e2) (events x2 cs) ∙ ap (λ es. history ++ es) (append_assoc e1 e2 (events x2 cs))

        more_ended : (q : ℕ) → IsTrue (among q x2.ended) ⊎ IsTrue (among q cs) → IsTrue (among q x.ended || ((c == q) || among q cs))
        more_ended q (inr t) = or_right (among q x.ended) _ (or_right (c == q) _ t)
        more_ended q (inl t) = elim (or_cases (among q x.ended) (c == q) (sym (x2_who q) ∙ t)) [ inl u ↦ or_left _ _ u | inr u ↦ or_right (among q x.ended) _ (or_left _ _ u) ]

        more_tree : (q : ℕ) → IsTrue (among q (after_reap s t c).state.ended) ⊎ IsTrue (among q cs) → IsTrue (among q t.state.ended || ((c == q) || among q cs))
        more_tree q (inr u) = or_right (among q t.state.ended) _ (or_right (c == q) _ u)
        more_tree q (inl u) = elim (or_cases (among q t.state.ended) (among c t.there && (c == q)) (sym (tree_who s placed t history may.level p acts c is.low is.high is.other q) ∙ u)) [
          | inl v ↦ or_left _ _ v
          | inr v ↦ or_right (among q t.state.ended) _ (or_left _ _ (second (among c t.there) (c == q) v))
        ]
          where
            second : (b d : Bool) → (b && d) ≡ true → d ≡ true
            second true d e = e
            second false d e = absurd (false≢true e)

        turned : (q : ℕ) → (q == c) ≡ (c == q)
        turned q = elim (cases_eq q c) [ inl e ↦ eq-eqb q c e ∙ sym (eq-eqb c q (sym e)) | inr ne ↦ ne_eqb q c ne ∙ sym (ne_eqb c q (λ e. ne (sym e))) ]

        both : (b g h d : Bool) → g ≡ h → ((b && not g) && not d) ≡ (b && not (h || d))
        both b g h d e = ap (λ k. (b && not k) && not d) e ∙ go b h
          where
            go : (b h : Bool) → ((b && not h) && not d) ≡ (b && not (h || d))
            go true true = refl
            go true false = refl
            go false h = refl

  -- all of a list
  pub reap_all : (cs before : List ℕ) (t : Tree) (history : List Event) (order : List ℕ) (rest : List Op) → AllByRecursion IsBelow cs → ComeAfter (family s) before cs → ActsIn s t p →
      MayReap t history cs before order rest (now s history) → Reaped t history cs order (now s history)
  reap_all [] before t history order rest below after acts may = record {
    ran = ran_nothing a p order (now s history) may.ready;
    level = subst (λ h. IsLevelAt s t (now s history) h) (sym (append-nil history)) may.level;
    said = tt;
    ended = λ q u. or_left _ _ u;
    tree_ended = λ q u. or_left _ _ u;
    there = λ q. sym (kept (among q t.there));
    uses = λ low_p m out. refl;
  }
    where
      kept : (b : Bool) → (b && true) ≡ b
      kept true = refl
      kept false = refl
  reap_all (c ∷ cs) before t history order rest below after acts may =
      let is = now_is t history acts c cs before order rest may below.0 after.0 in
      joined t history acts c cs before order rest may below.0 after.0
      (subst (λ z. MayReap (after_reap s t c) (history ++ (e1 t history acts c cs before order rest may below.0 after.0 ++ e2 t history acts c cs before order rest may below.0 after.0)) cs (c ∷ before) order rest z → Reaped (after_reap s t c) (history ++ (e1 t history acts c cs before order rest may below.0 after.0 ++ e2 t history acts c cs before order rest may below.0 after.0)) cs order z) is
      (reap_all cs (c ∷ before) (after_reap s t c) (history ++ (e1 t history acts c cs before order rest may below.0 after.0 ++ e2 t history acts c cs before order rest may below.0 after.0)) order rest below.1 after.1 (acts1 t history acts c cs before order rest may below.0 after.0))
      (may1 t history acts c cs before order rest may below.0 after.0))
