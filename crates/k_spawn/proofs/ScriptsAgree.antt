-- The translation of a script agrees with the tree machine.
use Rattle.std.proofs.Common.{◌≡◌, ◌⊎◌, ◌∙◌, ℕ, zero, suc, ◌+◌, ◌<◌, ◌≤◌, ◌==◌, ◌&&◌, ◌||◌, not, false, cond, List, [], ◌∷◌, ◌++◌, drop, filter, length, map, replicate, get_or, Option, Some, None, refl, sym, ap, ap₂, subst, arith, inl, inr, eq-eqb, eqb-true, IsTrue, IsFalse, le-leb}
use Rattle.std.specs.List.{AllByRecursion, list_any}
use Rattle.std.proofs.lemmas.Bool.{and_parts, cases_lt, false≢true, leb-true, or_cases, or_parts}
use Rattle.std.proofs.lemmas.List.{append_assoc, append-nil, get_or-map}
use Rattle.k_types.specs.declared.event.Event.{Event}
use Rattle.k_types.specs.declared.names.Name.{Name}
use Rattle.k_types.specs.declared.setup.LimitRow.{LimitRow}
use Rattle.k_types.specs.FileOrder.{file_order, last_events}
use Rattle.k_types.specs.Limits.{use_of}
use Rattle.k_types.specs.Names.{among, leads_to, name_eq}
use Rattle.k_types.specs.Numbers.{numbers_from}
use Rattle.k_types.specs.Owners.{bytes_of, shared, user}
use Rattle.k_types.specs.State.{Sharing, State, has_share, opening}
use Rattle.k_types.specs.Steps.{done_by}
use Rattle.k_types.specs.Totals.{total}
use Rattle.k_types.specs.Trace.{Trace, no_row, operations_of, process_count}
use Rattle.k_types.specs.TraceRules.{AreOperations}
use Rattle.k_types.proofs.NameTests.{name_eq_refl}
use Rattle.k_types.proofs.Numbered.{occurrences_count}
use Rattle.k_laws.proofs.Sizes.{get_or-same, opening_sized}
use Rattle.k_laws.proofs.Lines.{Ready}
use Rattle.k_spawn.specs.declared.script.ScriptLine.{ScriptLine}
use Rattle.k_spawn.specs.Agreement.{AgreesWithTree, TreesAgree, AnswersAlike, IsAbsent, IsSameTree, StaysBelow, events_of_lines, is_there, state_after_lines, tree_before}
use Rattle.k_spawn.specs.Families.{children, is_child}
use Rattle.k_spawn.specs.Scripts.{Script, family, limit_for}
use Rattle.k_spawn.specs.Timely.{was_reaped, was_spawned}
use Rattle.k_spawn.specs.Translation.{child_row, operations_in, order_of, translation}
use Rattle.k_spawn.specs.Tree.{Tree, first_tree, row_there, trace_there}
use Rattle.k_spawn.proofs.Gathered.{processes_are}
use Rattle.k_spawn.proofs.ChildTree.{all_processes, child_limit_known, first_child, row_is}
use Rattle.k_spawn.proofs.Level.{IsGone, IsLevel, IsPlaced, known_in, no_charge, now, sound, uses_same}
use Rattle.k_spawn.proofs.LineStep.{Stepped}
use Rattle.k_spawn.proofs.LinesAgree.{IsBehind, behind_all, filed_from, stepped}
use Rattle.k_spawn.proofs.ScriptsKeep.{judged_keeps, judged_whole}
use Rattle.k_spawn.proofs.TimelyLines.{AreTimely, IsTimely, all_timely, no_lineage}
use Rattle.k_spawn.proofs.Unborn.{unborn}
use Rattle.k_types.proofs.Lists.{at_number}

-- registers that hold nothing are null
null_registers : (rs : List (Option Name)) → ((m : Name) → list_any (λ r. leads_to r m) rs ≡ false) → rs ≡ replicate (length rs) None
null_registers [] none = refl
null_registers (None ∷ rs) none = ap (λ rest. None ∷ rest) (null_registers rs (λ m. none m))
null_registers (Some n ∷ rs) none = absurd (false≢true (sym (or_parts (name_eq n n) _ (none n)).0 ∙ name_eq_refl n))

no_shares : (c : ℕ) (shares : List Sharing) → ((t : ℕ) → IsFalse (has_share shares c t)) → AllByRecursion (λ e. e.process ≡ c → ⊥) shares
no_shares c [] none = tt
no_shares c (e ∷ shares) none = (
  λ same. false≢true (sym (or_parts ((e.process == c) && (e.heap == e.heap)) _ (none e.heap)).0 ∙ ap₂ (λ a b. a && b) (eq-eqb e.process c same) (eq-eqb e.heap e.heap refl)),
  no_shares c shares (λ t. (or_parts ((e.process == c) && (e.heap == t)) _ (none t)).1),
)

in_row : (first n k : ℕ) → IsTrue (among k (numbers_from first n)) → (first ≤ k) × (k < first + n)
in_row first zero k t = absurd (false≢true t)
in_row first (suc n) k t = elim (or_cases (first == k) (among k (numbers_from (suc first) n)) t) [
  | inl here ↦ let same : first ≡ k = eqb-true first k here in (omega (arith, same), omega (arith, same))
  | inr there ↦ let is = in_row (suc first) n k there in (let h = is.0 in omega (arith, h), let h = is.1 in omega (arith, h))
]

-- before the first line the maxima are the same
first_maxima : (s : Script) (front : List LimitRow) (ps : List ℕ) → map (λ (row : LimitRow). row.max) (front ++ map (row_there s []) ps) ≡ map (λ (row : LimitRow). row.max) (front ++ map (child_row s) ps)
first_maxima s [] [] = refl
first_maxima s [] (p ∷ ps) = ap (λ ms. 0 ∷ ms) (first_maxima s [] ps)
first_maxima s (row ∷ front) ps = ap (λ ms. row.max ∷ ms) (first_maxima s front ps)

timely_at : (s : Script) (first before rest : List ScriptLine) (l : ScriptLine) → AreTimely s before (first ++ l ∷ rest) → IsTimely s (before ++ first) l
timely_at s [] before rest l timely = subst (λ ls. IsTimely s ls l) (sym (append-nil before)) timely.0
timely_at s (k ∷ first) before rest l timely = subst (λ ls. IsTimely s ls l) (append_assoc before (k ∷ []) first) (timely_at s first (before ++ k ∷ []) rest l timely.1)

module _ (s : Script) (placed : IsPlaced s) (rules : AreOperations (translation s).trace) where
  abbrev a : Trace
  a = (translation s).trace

  first_ready : Ready a (opening a) (order_of s s.lines)
  first_ready = record {
    sized = opening_sized a;
    scans = refl;
    closed = refl;
    counted = λ p known lives.
        let count = rules.counted p known in
        let own = occurrences_count p (order_of s s.lines) in
        let none : get_or (opening a).done p 0 ≡ 0 = get_or-same (process_count a) p 0 0 known in
        omega (arith, count, own, none);
  }

  first_left : (q : ℕ) → q < process_count a → drop (get_or (opening a).done q 0) (operations_of a q) ≡ operations_in s s.lines q
  first_left q known =
      ap (λ n. drop n (operations_of a q)) (get_or-same (process_count a) q 0 0 known)
      ∙ at_number (operations_in s s.lines) 0 (all_processes s) q [] (subst (λ n. q < n) (processes_are s) known)
      ∙ ap (operations_in s s.lines) (let same : 0 + q ≡ q = omega arith in same)

  first_level : IsLevel s (first_tree s) []
  first_level = record {
    legal = tt;
    twins = ap (λ ms. record (opening a) { maxima = ms }) (first_maxima s s.header.trace.limits (children (family s)));
    header = λ q less. refl;
    present = λ c low high there. absurd (false≢true there);
    absent = λ c low high away. record {
      maximum =
          get_or-map (λ (row : LimitRow). row.max) a.limits (limit_for s c) no_row 0 (child_limit_known s c low high)
          ∙ ap (λ (row : LimitRow). row.max) (row_is s c low high);
      over = inr refl;
    };
  }

  pub begins : IsBehind s [] s.lines (first_tree s) []
  begins = record {
    level = first_level;
    ready = first_ready;
    left = first_left;
    lineage = no_lineage (family s);
    ended = λ q t. absurd (false≢true t);
    tree_ended = λ q t. absurd (false≢true t);
    there = λ q. refl;
  }

  -- what both machines have in common
  module _ (before rest : List ScriptLine) (t : Tree) (history : List Event) (behind : IsBehind s before rest t history) where
    abbrev x : State
    x = now s history

    absent_is : (c : ℕ) → first_child s ≤ c → c < all_processes s → IsFalse (among c t.there) → IsAbsent s c x
    absent_is c low high away = go (behind.level.absent c low high away)
      where
        known : c < process_count a
        known = known_in s placed t history behind.level c high

        go : IsGone s t x history c → IsAbsent s c x
        go gone = by gone.over
          where
            by : (IsTrue (among c x.ended) × IsTrue (among c t.state.ended)) ⊎ (done_by c history ≡ []) → IsAbsent s c x
            by (inl both) =
                let is = sound s placed t history behind.level in record {
                  registers =
                      null_registers (get_or x.registers c []) (λ m. is.gone.registers c m both.0)
                      ∙ ap (λ n. replicate n None) (is.shape.sized.each c known);
                  charge = ap (λ b. cond b 0 (bytes_of a x (user c) + total (λ e. bytes_of a x (shared e.heap)) (filter (λ e. e.process == c) x.shares))) both.0;
                  shares = no_shares c x.shares (λ u. is.gone.shares c u both.0);
                  maximum = gone.maximum;
                }
            by (inr nothing) =
                let none = unborn a c history known nothing in record {
                  registers = none.registers;
                  charge = no_charge s placed t history behind.level c high nothing x.ended;
                  shares = no_shares c x.shares none.shares;
                  maximum = gone.maximum;
                }

    ended_same : (p : ℕ) → IsTrue (is_there s t.there p) → among p x.ended ≡ among p t.state.ended
    ended_same p there = elim (cases_lt p (first_child s)) [
      | inl low ↦ sym (behind.level.header p low)
      | inr high ↦
          let is = among_there high in
          let spawned = (and_parts (was_spawned before p) (not (was_reaped (family s) before p)) (sym (behind.there p) ∙ is)).0 in
          sym (behind.level.present p high (behind.lineage.known p spawned) is)
    ]
      where
        among_there : first_child s ≤ p → IsTrue (among p t.there)
        among_there high = ap (λ b. not b || among p t.there) (sym (le-leb (first_child s) p high)) ∙ there

    pub same_tree : IsSameTree s t x
    same_tree = record {
      objects = sym (ap (λ (z : State). z.objects) behind.level.twins);
      made = sym (ap (λ (z : State). z.made) behind.level.twins);
      registers = λ p there. ap (λ (rs : List (List (Option Name))). get_or rs p []) (sym (ap (λ (z : State). z.registers) behind.level.twins));
      ended = ended_same;
      exits = sym (ap (λ (z : State). z.exits) behind.level.twins);
      shares = sym (ap (λ (z : State). z.shares) behind.level.twins);
      phases = sym (ap (λ (z : State). z.phases) behind.level.twins);
      uses = λ m known there. sym (ap (λ (z : State). use_of (trace_there s t.there) z m) behind.level.twins ∙ uses_same s placed t history behind.level m);
      absent = λ c there away. let is = in_row (first_child s) (length s.parents) c there in absent_is c is.0 is.1 away;
    }

  module _ (timely : AreTimely s [] s.lines) where
    behind_at : (first rest : List ScriptLine) → s.lines ≡ first ++ rest → IsBehind s first rest (tree_before s first) (events_of_lines s (opening a) first)
    behind_at first rest e =
        behind_all s placed rules first [] rest (first_tree s) [] (subst (AreTimely s []) e timely) (subst (λ ls. IsBehind s [] ls (first_tree s) []) e begins)

    timely_here : (first rest : List ScriptLine) (l : ScriptLine) → s.lines ≡ first ++ l ∷ rest → IsTimely s first l
    timely_here first rest l e = timely_at s first [] rest l (subst (AreTimely s []) e timely)

    pub stepped_at : (first rest : List ScriptLine) (l : ScriptLine) → s.lines ≡ first ++ l ∷ rest → Stepped s (tree_before s first) (state_after_lines s first) (events_of_lines s (opening a) first) l (order_of s rest)
    stepped_at first rest l e = stepped s placed rules first rest l.pid.0 l.deed (tree_before s first) (events_of_lines s (opening a) first) (behind_at first (l ∷ rest) e) (timely_here first rest l e)

    pub filed_is : file_order a ≡ events_of_lines s (opening a) s.lines ++ last_events a (state_after_lines s s.lines)
    filed_is = filed_from s placed rules s.lines [] (first_tree s) [] timely begins

    pub same_is : (first rest : List ScriptLine) → s.lines ≡ first ++ rest → IsSameTree s (tree_before s first) (state_after_lines s first)
    same_is first rest e = same_tree first rest (tree_before s first) (events_of_lines s (opening a) first) (behind_at first rest e)

    pub alike_is : (first rest : List ScriptLine) (l : ScriptLine) → s.lines ≡ first ++ l ∷ rest → AnswersAlike s (tree_before s first) (state_after_lines s first) l
    alike_is first rest l e = (stepped_at first rest l e).alike

    pub below_is : (first rest : List ScriptLine) (l : ScriptLine) → s.lines ≡ first ++ l ∷ rest → IsTrue (is_child (family s) l.pid.0) → StaysBelow s l (state_after_lines s first)
    below_is first rest l e child m known apart above =
        (stepped_at first rest l e).uses (leb-true (first_child s) l.pid.0 child) m (record {
          known = known;
          apart = λ same. false≢true (sym (or_parts (limit_for s l.pid.0 == m) false apart).0 ∙ eq-eqb (limit_for s l.pid.0) m same);
          above = above;
        })

    -- the translation agrees with the tree machine
    pub agrees : AgreesWithTree s
    agrees = record { filed = filed_is; same = same_is; alike = alike_is; below = below_is }

-- of every script that bytes are, the translation is a trace, which agrees with the tree machine
pub judged_agrees : TreesAgree
judged_agrees bytes s e =
    let kept = judged_whole bytes s e in
    let keeps = judged_keeps bytes s e in
    let placed : IsPlaced s = record { in_order = kept.children.in_order; limited = kept.header.0.begun.heaps.limited; limits = keeps.rules.limits } in
    (keeps, agrees s placed keeps.rules.operations (all_timely s [] s.lines kept.lines.good kept.lines.in_time))
