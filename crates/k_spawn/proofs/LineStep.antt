-- A line in both machines: they stay level, and it is answered alike.
use Rattle.std.proofs.Common.{◌≡◌, ◌⊎◌, ◌∙◌, ℕ, ◌+◌, ◌-◌, ◌<◌, ◌≤◌, ◌==◌, ◌&&◌, ◌||◌, not, Bool, true, false, cond, List, [], ◌∷◌, ◌++◌, drop, length, map, get_or, Some, refl, sym, ap, subst, arith, inl, inr, eq-eqb, ne_eqb, IsTrue, IsFalse}
use Rattle.std.specs.List.{AllByRecursion, flat_map}
use Rattle.std.proofs.lemmas.Bool.{false≢true, or_cases, or_left, or_right}
use Rattle.std.proofs.lemmas.List.{append-nil}
use Rattle.k_types.specs.declared.event.Event.{Event}
use Rattle.k_types.specs.declared.op.Op.{Op}
use Rattle.k_types.specs.declared.op.Op.TheVariants.{Resize}
use Rattle.k_types.specs.FileOrder.{events_of}
use Rattle.k_types.specs.Limits.{use_of}
use Rattle.k_types.specs.Names.{among}
use Rattle.k_types.specs.State.{State, opening}
use Rattle.k_types.specs.Steps.{IsLegalHistory, done_by, run}
use Rattle.k_types.specs.Trace.{Trace, operations_of, process_count}
use Rattle.k_types.specs.TraceRules.{AreOperations, is_exit, is_of_version}
use Rattle.k_types.proofs.Charges.{or_none}
use Rattle.k_laws.proofs.Histories.{legal_append}
use Rattle.k_laws.proofs.Lines.{Ready}
use Rattle.k_spawn.specs.declared.script.Deed.{Deed}
use Rattle.k_spawn.specs.declared.script.Deed.TheVariants.{Does, Spawns, Reaps}
use Rattle.k_spawn.specs.declared.script.ScriptLine.{ScriptLine}
use Rattle.k_spawn.specs.Agreement.{AnswersAlike, line_events, replies_in}
use Rattle.k_spawn.specs.Families.{Family, IsFamily, parent_of, reaped_with}
use Rattle.k_spawn.specs.Scripts.{Script, family, limit_for}
use Rattle.k_spawn.specs.Timely.{exits, reaps, spawns}
use Rattle.k_spawn.specs.Translation.{ending, limit_id, operations_of_deed, translation}
use Rattle.k_spawn.specs.Tree.{Tree, full_at, reply_in_tree, spawn_reply, tree_after}
use Rattle.k_spawn.proofs.Gathered.{processes_are}
use Rattle.k_spawn.proofs.ChildSteps.{resize_said, resized}
use Rattle.k_spawn.proofs.ChildTree.{IsOver, all_processes, first_child, over_child}
use Rattle.k_spawn.proofs.Level.{IsLevel, IsLevelAt, IsPlaced, now, sound}
use Rattle.k_spawn.proofs.OneOperation.{IsNext, next_is, one_done}
use Rattle.k_spawn.proofs.OperationStep.{done_level, ended_is, events_said, said_alike, who, who_there}
use Rattle.k_spawn.proofs.ReapAll.{IsBelow, Reaped, reap_all}
use Rattle.k_spawn.proofs.ReapStep.{ActsIn}
use Rattle.k_spawn.proofs.ReapedOrder.{down_list, list_ordered}
use Rattle.k_spawn.proofs.Running.{Ran, ran_more, ran_nothing}
use Rattle.k_spawn.proofs.SpawnStep as spawn
use Rattle.k_spawn.proofs.StopsAtHard.{KeepsUses, operation_keeps}

-- what a line leaves; z is the state of the translation before it
pub record Stepped (s : Script) (t : Tree) (z : State) (history : List Event) (l : ScriptLine) (order : List ℕ) : Type 0 where
  pub ran : Ran (translation s).trace z l.pid.0 (operations_of_deed s l.deed) order (line_events s z l)
  pub level : IsLevelAt s (tree_after s t l.pid.0 l.deed) (run (translation s).trace z (line_events s z l)) (history ++ line_events s z l)
  pub alike : AnswersAlike s t z l
  pub ended : (q : ℕ) → IsTrue (among q (run (translation s).trace z (line_events s z l)).ended) → IsTrue (among q z.ended || (((l.pid.0 == q) && exits l.deed) || reaps (family s) q l.deed))
  pub tree_ended : (q : ℕ) → IsTrue (among q (tree_after s t l.pid.0 l.deed).state.ended) → IsTrue (among q t.state.ended || (((l.pid.0 == q) && exits l.deed) || reaps (family s) q l.deed))
  pub there : (q : ℕ) → among q (tree_after s t l.pid.0 l.deed).there ≡ ((among q t.there || spawns q l.deed) && not (reaps (family s) q l.deed))
  pub uses : first_child s ≤ l.pid.0 → KeepsUses s l.pid.0 z (run (translation s).trace z (line_events s z l))

all_among : (P : ℕ → Type 0) (ns : List ℕ) → ((n : ℕ) → IsTrue (among n ns) → P n) → AllByRecursion P ns
all_among P [] each = tt
all_among P (n ∷ ns) each = (each n (or_left (n == n) _ (eq-eqb n n refl)), all_among P ns (λ k t. each k (or_right (n == k) _ t)))

-- a parent stands before its child
parent_less : (f : Family) → IsFamily f → (d : ℕ) → f.first ≤ d → d < f.first + length f.parents → parent_of f d < d
parent_less f fam d low high =
    let before : parent_of f d < f.first + (d - f.first) = fam.before (d - f.first) (omega (arith, low, high)) in
    omega (arith, low, before)

module _ (s : Script) (placed : IsPlaced s) (rules : AreOperations (translation s).trace) (t : Tree) (history : List Event) (level : IsLevel s t history)
    (p : ℕ) (known : p < all_processes s) (acts : ActsIn s t p) (order : List ℕ) (rest : List Op) (lives : IsFalse (among p (now s history).ended)) where
  abbrev a : Trace
  a = (translation s).trace

  abbrev x : State
  x = now s history

  abbrev pid_line : Deed → ScriptLine
  pid_line deed = record { pid = record { 0 = p }; deed = deed }

  known_too : p < process_count a
  known_too = subst (λ n. p < n) (sym (processes_are s)) known

  -- what is asked of a line's operations: they come next
  pub record ComeNext (ops : List Op) : Type 0 where
    pub ready : Ready a x (map (λ op. p) ops ++ order)
    pub todo : drop (get_or x.done p 0) (operations_of a p) ≡ ops ++ rest

  module _ (op : Op) (next : ComeNext (op ∷ [])) where
    abbrev events : List Event
    events = events_of a x p (Some op)

    is_next : IsNext a x p op order
    is_next = next_is a rules x p op rest order next.ready known_too lives next.todo

    one_ran : Ran a x p (op ∷ []) order (events ++ [])
    one_ran = ran_more a p order x op [] [] is_next (ran_nothing a p order (run a x events) is_next.ready)

    quiet : (q : ℕ) → (q ≡ p → ⊥) → done_by q events ≡ []
    quiet q ne = one_done a x p op q ∙ ap (λ b. cond b (op ∷ []) []) (ne_eqb p q (λ e. ne (sym e)))

    legal : IsLegalHistory a (history ++ events)
    legal = legal_append a (opening a) history events level.legal is_next.legal

    whole : events ++ [] ≡ events
    whole = append-nil events

  -- an operation of the first version
  pub does : (op : Op) → IsTrue (is_of_version 1 op) → ComeNext (op ∷ []) → Stepped s t x history (pid_line (Does op)) order
  does op first next = record {
    ran = one_ran op next;
    level = subst (λ es. IsLevelAt s (tree_after s t p (Does op)) (run a x es) (history ++ es)) (sym (whole op next)) (done_level s placed t history level p acts op first (legal op next) (quiet op next));
    alike = subst (AllByRecursion (λ said. said ≡ reply_in_tree s t p (Does op))) (sym (ap replies_in (whole op next) ∙ events_said a x p op)) (sym (said_alike s placed t history level p acts op first), tt);
    ended = λ q u. shape q x.ended (sym (ended_is op p q x.ended) ∙ sym (ap (among q) (ap (λ es. (run a x es).ended) (whole op next) ∙ who s placed t history level p acts op first)) ∙ u);
    tree_ended = λ q u. shape q t.state.ended (sym (ended_is op p q t.state.ended) ∙ sym (ap (among q) (who_there s placed t history level p acts op first)) ∙ u);
    there = λ q. same (among q t.there);
    uses = λ low_p m out. ap (λ es. use_of a (run a x es) m) (whole op next) ∙ operation_keeps s placed p low_p known x (sound s placed t history level) op first (is_next op next).legal m out;
  }
    where
      shape : (q : ℕ) (ended : List ℕ) → IsTrue (among q ended || ((p == q) && is_exit op)) → IsTrue (among q ended || (((p == q) && is_exit op) || false))
      shape q ended u = elim (or_cases (among q ended) ((p == q) && is_exit op) u) [ inl v ↦ or_left _ _ v | inr v ↦ or_right (among q ended) _ (or_left _ false v) ]

      same : (b : Bool) → b ≡ ((b || false) && true)
      same true = refl
      same false = refl

  -- a spawn
  pub spawns_child : (c : ℕ) (max : ℕ) (low : first_child s ≤ c) (high : c < all_processes s) (parent : parent_of (family s) c ≡ p) (new : IsFalse (among c t.there)) (alive : IsFalse (among c x.ended)) (alive_there : IsFalse (among c t.state.ended)) →
      ((d : ℕ) → first_child s ≤ d → d < all_processes s → parent_of (family s) d ≡ c → IsFalse (among d t.there)) → ComeNext (Resize (limit_id s c) max ∷ []) → Stepped s t x history (pid_line (Spawns (record { 0 = c }) max)) order
  spawns_child c max low high parent new alive alive_there childless next =
      let op : Op = Resize (limit_id s c) max in
      let full = spawn.full s placed t history level p known acts c low high parent new alive alive_there childless max in
      let fault = spawn.fault_is s placed t history level p known acts c low high parent new alive alive_there childless max in
      let full_is = spawn.full_is s placed t history level p known acts c low high parent new alive alive_there childless max in
      let left : State = spawn.left_by s placed t history level p known acts c low high parent new alive alive_there childless max (spawn.full s placed t history level p known acts c low high parent new alive alive_there childless max) in
      let left_is : run a x (events_of a x p (Some (Resize (limit_id s c) max)) ++ []) ≡ left = ap (run a x) (whole (Resize (limit_id s c) max) next) ∙ resized a x p (limit_for s c) max full fault in
      let level_there = spawn.spawned_level s placed t history level p known acts c low high parent new alive alive_there childless max (events_of a x p (Some (Resize (limit_id s c) max))) (legal (Resize (limit_id s c) max) next) (quiet (Resize (limit_id s c) max) next) in
      record {
        ran = one_ran (Resize (limit_id s c) max) next;
        level = subst (λ z. IsLevelAt s (tree_after s t p (Spawns (record { 0 = c }) max)) z (history ++ (events_of a x p (Some (Resize (limit_id s c) max)) ++ []))) (sym left_is)
            (subst (λ es. IsLevelAt s (tree_after s t p (Spawns (record { 0 = c }) max)) left (history ++ es)) (sym (whole (Resize (limit_id s c) max) next)) level_there);
        alike = subst (AllByRecursion (λ said. said ≡ spawn_reply (full_at s t p max))) (sym (ap replies_in (whole (Resize (limit_id s c) max) next) ∙ events_said a x p (Resize (limit_id s c) max)))
            (resize_said a x p (limit_for s c) max full fault ∙ ap spawn_reply (sym full_is), tt);
        ended = λ q u. or_left _ _ (sym (ap (λ (z : State). among q z.ended) left_is ∙ ap (among q) (spawn.left_who s placed t history level p known acts c low high parent new alive alive_there childless max full)) ∙ u);
        tree_ended = λ q u. or_left _ _ (sym (ap (among q) (spawn.tree_who s placed t history level p known acts c low high parent new alive alive_there childless max (full_at s t p max))) ∙ u);
        there = λ q. turned (c == q) (among q t.there);
        uses = λ low_p m out. ap (λ z. use_of a z m) left_is ∙ spawn.left_keeps s placed t history level p known acts c low high parent new alive alive_there childless max low_p full m out;
      }
    where
      turned : (b d : Bool) → (b || d) ≡ ((d || b) && true)
      turned true true = refl
      turned true false = refl
      turned false true = refl
      turned false false = refl

  -- whom a reaping ends is below the process
  below : (c : ℕ) → first_child s ≤ c → c < all_processes s → parent_of (family s) c ≡ p → AllByRecursion (IsBelow s placed rules p known_too known) (reaped_with (family s) c)
  below c low high parent = all_among (IsBelow s placed rules p known_too known) (reaped_with (family s) c) (λ n t.
      let is = down_list (family s) Under down (length s.parents) c n first t in
      record { low = is.0; high = is.1; other = λ same. absurd (let h = is.3 in omega (arith, same, h)); over = is.2; up = is.4 })
    where
      IsUp : ℕ → Type 0
      IsUp n = (parent_of (family s) n ≡ p) ⊎ ((first_child s ≤ parent_of (family s) n) × (parent_of (family s) n < all_processes s) × IsOver s (limit_for s p) (limit_for s (parent_of (family s) n)))

      Under : ℕ → Type 0
      Under n = (first_child s ≤ n) × (n < all_processes s) × IsOver s (limit_for s p) (limit_for s n) × (p < n) × IsUp n

      down : (e d : ℕ) → first_child s ≤ d → d < all_processes s → parent_of (family s) d ≡ e → Under e → Under d
      down e d low_d high_d is under = (
        low_d,
        high_d,
        over_child s placed.limits.tree d (limit_for s p) low_d high_d (inr (subst (λ n. IsOver s (limit_for s p) (limit_for s n)) (sym is) under.2)),
        let less = parent_less (family s) placed.in_order d low_d high_d in let h = under.3 in omega (arith, less, is, h),
        inr (subst (λ n. (first_child s ≤ n) × (n < all_processes s) × IsOver s (limit_for s p) (limit_for s n)) (sym is) (under.0, under.1, under.2)),
      )

      first : Under c
      first = (
        low,
        high,
        over_child s placed.limits.tree c (limit_for s p) low high (inl (ap (limit_for s) parent)),
        let less = parent_less (family s) placed.in_order c low high in omega (arith, less, parent),
        inl parent,
      )

  -- a reaping
  pub reaps_child : (c : ℕ) → first_child s ≤ c → c < all_processes s → parent_of (family s) c ≡ p → ComeNext (flat_map (ending s) (reaped_with (family s) c)) → Stepped s t x history (pid_line (Reaps (record { 0 = c }))) order
  reaps_child c low high parent next =
      let all : Reaped s placed rules p known_too known t history (reaped_with (family s) c) order x =
      reap_all s placed rules p known_too known (reaped_with (family s) c) [] t history order rest (below c low high parent) (list_ordered (family s) placed.in_order c low) acts
      (record { level = level; ready = next.ready; lives = lives; todo = next.todo; dead = λ d u. absurd (false≢true u) }) in record {
        ran = all.ran;
        level = all.level;
        alike = all.said;
        ended = λ q u. shape q x.ended (all.ended q u);
        tree_ended = λ q u. shape q t.state.ended (all.tree_ended q u);
        there = λ q. all.there q ∙ ap (λ b. b && not (among q (reaped_with (family s) c))) (sym (or_none (among q t.there)));
        uses = all.uses;
      }
    where
      shape : (q : ℕ) (ended : List ℕ) → IsTrue (among q ended || among q (reaped_with (family s) c)) → IsTrue (among q ended || (((p == q) && false) || among q (reaped_with (family s) c)))
      shape q ended u = elim (or_cases (among q ended) (among q (reaped_with (family s) c)) u) [ inl v ↦ or_left _ _ v | inr v ↦ or_right (among q ended) _ (or_right ((p == q) && false) _ v) ]
