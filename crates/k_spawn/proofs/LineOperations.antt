-- The operations of a translation keep the rules.
use Rattle.std.proofs.Common.{◌≡◌, ◌∙◌, ℕ, ◌+◌, ◌*◌, ◌^◌, ◌<◌, ◌==◌, ◌&&◌, ◌||◌, Bool, true, false, cond, eqb, ltb, List, [], ◌∷◌, ◌++◌, length, map, refl, sym, ap, ap₂, subst, arith, append_assoc, append-nil}
use Rattle.std.proofs.Math.Bool.{or-false}
use Rattle.std.proofs.lemmas.Bool.{eqb-true, false≢true, lt-ltb, or_parts}
use Rattle.std.proofs.lemmas.Grind.{flat_map-append}
use Rattle.std.proofs.lemmas.List.{length-append, length-map}
use Rattle.std.proofs.lemmas.List.Folds.{list_all-append, list_any-append}
use Rattle.std.specs.List.{AllByRecursion, flat_map, list_all}
use Rattle.k_types.specs.declared.op.Op.{Op}
use Rattle.k_types.specs.declared.op.Op.TheVariants.{Kill, Resize}
use Rattle.k_types.specs.Numbers.{numbers_below}
use Rattle.k_types.specs.Steps.{in_range}
use Rattle.k_types.specs.Trace.{Trace, operations_of, process_count}
use Rattle.k_types.specs.TraceRules.{AreOperations, EndsWithExit, is_exit, is_of_version, is_spelled}
use Rattle.k_types.proofs.Lists.{numbers_length, at_number}
use Rattle.k_types.proofs.Sums.{bit, count_is_total, total_append}
use Rattle.k_trace.specs.Grown.{has_exit}
use Rattle.k_reader.proofs.OpLists.{ends_nil, ends_push, times, times_head, none_ends}
use Rattle.k_spawn.specs.declared.script.Deed.{Deed}
use Rattle.k_spawn.specs.declared.script.Deed.TheVariants.{Does, Spawns, Reaps}
use Rattle.k_spawn.specs.declared.script.ScriptLine.{ScriptLine}
use Rattle.k_spawn.specs.Courses.{IsDeedOf}
use Rattle.k_spawn.specs.Families.{reaped_with}
use Rattle.k_spawn.specs.Scripts.{Script, family, limit_for}
use Rattle.k_spawn.specs.Timely.{exits, has_left, operations_so_far, weight}
use Rattle.k_spawn.specs.Translation.{ending, limit_id, operations_in, operations_of_deed, order_of, translation}
use Rattle.k_spawn.proofs.ChildLimits.{AreLimited, limit_before, limits_are}
use Rattle.k_spawn.proofs.Gathered.{processes_are}
use Rattle.k_spawn.proofs.KeptSoFar.{AllInTime, AreLines, IsGoodDeed, IsGoodLine}
use Rattle.k_spawn.proofs.Reaped.{AreBelow, reaped_below}

-- ---- exits

-- a reaping is no exit
endings_go_on : (s : Script) (cs : List ℕ) → has_exit (flat_map (ending s) cs) ≡ false
endings_go_on s [] = refl
endings_go_on s (c ∷ cs) = endings_go_on s cs

-- the operations of a deed have an exit where the deed is one
deed_exits : (s : Script) (deed : Deed) → has_exit (operations_of_deed s deed) ≡ exits deed
deed_exits s (Does op) = or-false (is_exit op)
deed_exits s (Spawns c max) = refl
deed_exits s (Reaps c) = endings_go_on s (reaped_with (family s) c.0)

-- what a line becomes that is one of the process
abbrev own : Script → ScriptLine → ℕ → List Op
own s l p = cond (l.pid.0 == p) (operations_of_deed s l.deed) []

-- the operations of a process have an exit where the process has left
left_is : (s : Script) (p : ℕ) (lines : List ScriptLine) → has_exit (operations_in s lines p) ≡ has_left lines p
left_is s p [] = refl
left_is s p (l ∷ ls) = list_any-append is_exit (own s l p) (operations_in s ls p) ∙ ap₂ (λ (a b : Bool). a || b) (part (l.pid.0 == p)) (left_is s p ls)
  where
    part : (b : Bool) → has_exit (cond b (operations_of_deed s l.deed) []) ≡ (b && exits l.deed)
    part true = deed_exits s l.deed
    part false = refl

ends_append_at : (xs ys first rest : List Op) (op : Op) → has_exit xs ≡ false → EndsWithExit ys → xs ++ ys ≡ first ++ op ∷ rest → is_exit op ≡ true → rest ≡ []
ends_append_at [] ys first rest op none ends e exit = ends first op rest e exit
ends_append_at (x ∷ xs) ys [] rest op none ends e exit =
    let same : x ≡ op = cc in
    absurd (false≢true (sym none ∙ ap (λ b. b || has_exit xs) (ap is_exit same ∙ exit)))
ends_append_at (x ∷ xs) ys (f ∷ first) rest op none ends e exit =
    let same : xs ++ ys ≡ first ++ op ∷ rest = cc in
    ends_append_at xs ys first rest op (or_parts (is_exit x) (has_exit xs) none).1 ends same exit

-- nor behind operations that have none
ends_append : (xs ys : List Op) → has_exit xs ≡ false → EndsWithExit ys → EndsWithExit (xs ++ ys)
ends_append xs ys none ends first op rest e exit = ends_append_at xs ys first rest op none ends e exit

deed_ends : (s : Script) (deed : Deed) → EndsWithExit (operations_of_deed s deed)
deed_ends s (Does op) = ends_push [] op refl
deed_ends s (Spawns c max) = none_ends (operations_of_deed s (Spawns c max)) refl
deed_ends s (Reaps c) = none_ends (operations_of_deed s (Reaps c)) (endings_go_on s (reaped_with (family s) c.0))

-- one line more
ends_by : (s : Script) (before : List ScriptLine) (l : ScriptLine) (p : ℕ) (b : Bool) → (l.pid.0 == p) ≡ b → has_left before l.pid.0 ≡ false → EndsWithExit (operations_in s before p)
    → EndsWithExit (operations_in s before p ++ (cond b (operations_of_deed s l.deed) [] ++ []))
ends_by s before l p true e lives ends =
    let same : l.pid.0 ≡ p = eqb-true _ _ e in
    ends_append (operations_in s before p) (operations_of_deed s l.deed ++ []) (left_is s p before ∙ subst (λ (q : ℕ). has_left before q ≡ false) same lives)
    (subst EndsWithExit (sym (append-nil (operations_of_deed s l.deed))) (deed_ends s l.deed))
ends_by s before l p false e lives ends = subst EndsWithExit (sym (append-nil (operations_in s before p))) ends

ends_push_line : (s : Script) (before : List ScriptLine) (l : ScriptLine) (p : ℕ) → has_left before l.pid.0 ≡ false → EndsWithExit (operations_in s before p) → EndsWithExit (operations_in s (before ++ l ∷ []) p)
ends_push_line s before l p lives ends =
    subst EndsWithExit (sym (flat_map-append (λ (x : ScriptLine). own s x p) before (l ∷ []))) (ends_by s before l p (l.pid.0 == p) refl lives ends)

-- nothing follows an exit where no line stands behind one
ends_from : (s : Script) (p : ℕ) (before lines : List ScriptLine) → AllInTime (family s) before lines → EndsWithExit (operations_in s before p) → EndsWithExit (operations_in s (before ++ lines) p)
ends_from s p before [] in_time ends = subst (λ (ls : List ScriptLine). EndsWithExit (operations_in s ls p)) (sym (append-nil before)) ends
ends_from s p before (l ∷ ls) in_time ends =
    subst (λ (xs : List ScriptLine). EndsWithExit (operations_in s xs p)) (append_assoc before (l ∷ []) ls)
    (ends_from s p (before ++ l ∷ []) ls in_time.1 (ends_push_line s before l p in_time.0.goes_on ends))

-- ---- what holds of each operation

and_true : (b : Bool) → b ≡ true → (b && true) ≡ true
and_true b e = ap (λ x. x && true) e

-- what each operation of good lines passes, those of a process pass
lines_pass : (s : Script) (t : Trace) (test : Op → Bool) → ((deed : Deed) → IsDeedOf (family s) deed → IsGoodDeed t deed → list_all test (operations_of_deed s deed) ≡ true)
    → (p : ℕ) (lines : List ScriptLine) → AllByRecursion (IsGoodLine t (family s)) lines → list_all test (operations_in s lines p) ≡ true
lines_pass s t test each p [] all = refl
lines_pass s t test each p (l ∷ ls) all =
    list_all-append test (own s l p) (operations_in s ls p) ∙ ap₂ (λ (a b : Bool). a && b) (part (l.pid.0 == p)) (lines_pass s t test each p ls all.1)
  where
    part : (b : Bool) → list_all test (cond b (operations_of_deed s l.deed) []) ≡ true
    part true = each l.deed all.0.deed all.0.good
    part false = refl

-- what holds of each end of a child holds of a reaping
endings_pass : (s : Script) (test : Op → Bool) (n : ℕ) → ((c : ℕ) → c < n → (test (Kill (record { 0 = c })) ≡ true) × (test (Resize (limit_id s c) 0) ≡ true))
    → (cs : List ℕ) → AreBelow n cs → list_all test (flat_map (ending s) cs) ≡ true
endings_pass s test n each [] below = refl
endings_pass s test n each (c ∷ cs) below =
    let one = each c below.0 in
    ap (λ b. b && (test (Resize (limit_id s c) 0) && list_all test (flat_map (ending s) cs))) one.0
    ∙ ap (λ b. b && list_all test (flat_map (ending s) cs)) one.1
    ∙ endings_pass s test n each cs below.1

-- an operation of the first version that is in range of the header is in range of the translation
in_range_too : (s : Script) (op : Op) → is_of_version 1 op ≡ true → in_range s.header.trace op ≡ in_range (translation s).trace op
unfolding in_range
in_range_too s (Kill q) first = absurd cc
in_range_too s (Resize m max) first = absurd cc
in_range_too s _ first = refl

resize_in_range : (s : Script) (c max : ℕ) → AreLimited s → c < process_count s.header.trace + length s.parents → max < 2 ^ 40 → in_range (translation s).trace (Resize (limit_id s c) max) ≡ true
unfolding in_range
resize_in_range s c max limited inside small =
    let known : limit_for s c < length (translation s).trace.limits = rw (limits_are s) (limit_before s (length s.parents) c limited inside) in
    ap₂ (λ (a b : Bool). a && b) (lt-ltb _ _ known) (lt-ltb max (2 ^ 40) small)

kill_in_range : (s : Script) (c : ℕ) → c < process_count s.header.trace + length s.parents → in_range (translation s).trace (Kill (record { 0 = c })) ≡ true
unfolding in_range
kill_in_range s c inside = let known : c < process_count (translation s).trace = rw (processes_are s) inside in lt-ltb _ _ known

deed_in_range : (s : Script) (deed : Deed) → AreLimited s → IsDeedOf (family s) deed → IsGoodDeed s.header.trace deed → list_all (in_range (translation s).trace) (operations_of_deed s deed) ≡ true
deed_in_range s (Does op) limited known good = and_true (in_range (translation s).trace op) (sym (in_range_too s op good.2) ∙ good.0)
deed_in_range s (Spawns c max) limited known good = and_true (in_range (translation s).trace (Resize (limit_id s c.0) max)) (resize_in_range s c.0 max limited known good)
deed_in_range s (Reaps c) limited known good =
    endings_pass s (in_range (translation s).trace) (process_count s.header.trace + length s.parents)
    (λ x inside. (kill_in_range s x inside, resize_in_range s x 0 limited inside (omega arith)))
    (reaped_with (family s) c.0) (reaped_below (family s) (length s.parents) c.0 known)

deed_spelled : (s : Script) (t : Trace) (deed : Deed) → IsDeedOf (family s) deed → IsGoodDeed t deed → list_all is_spelled (operations_of_deed s deed) ≡ true
deed_spelled s t (Does op) known good = and_true (is_spelled op) good.1
deed_spelled s t (Spawns c max) known good = and_true (ltb max (2 ^ 40)) (lt-ltb max (2 ^ 40) good)
deed_spelled s t (Reaps c) known good =
    endings_pass s is_spelled (process_count s.header.trace + length s.parents) (λ x inside. (refl, lt-ltb 0 (2 ^ 40) (omega arith)))
    (reaped_with (family s) c.0) (reaped_below (family s) (length s.parents) c.0 known)

-- the second version has what the first has
second_has : (op : Op) → is_of_version 1 op ≡ true → is_of_version 2 op ≡ true
second_has (Kill q) first = absurd cc
second_has (Resize m max) first = absurd cc
second_has _ first = refl

deed_of_version : (s : Script) (t : Trace) (deed : Deed) → IsDeedOf (family s) deed → IsGoodDeed t deed → list_all (is_of_version 2) (operations_of_deed s deed) ≡ true
deed_of_version s t (Does op) known good = and_true (is_of_version 2 op) (second_has op good.2)
deed_of_version s t (Spawns c max) known good = refl
deed_of_version s t (Reaps c) known good =
    endings_pass s (is_of_version 2) (process_count s.header.trace + length s.parents) (λ x inside. (refl, refl))
    (reaped_with (family s) c.0) (reaped_below (family s) (length s.parents) c.0 known)

-- ---- the order

below_again : (p n : ℕ) (ops : List Op) → p < n → list_all (λ q. ltb q n) (map (λ op. p) ops) ≡ true
below_again p n [] lt = refl
below_again p n (op ∷ ops) lt = ap₂ (λ (a b : Bool). a && b) (lt-ltb p n lt) (below_again p n ops lt)

order_below : (s : Script) (t : Trace) (n : ℕ) (lines : List ScriptLine) → process_count s.header.trace + length s.parents ≡ n → AllByRecursion (IsGoodLine t (family s)) lines
    → list_all (λ q. ltb q n) (order_of s lines) ≡ true
order_below s t n [] same all = refl
order_below s t n (l ∷ ls) same all =
    let known = all.0.process in
    list_all-append (λ q. ltb q n) (map (λ op. l.pid.0) (operations_of_deed s l.deed)) (order_of s ls)
    ∙ ap₂ (λ (a b : Bool). a && b) (below_again l.pid.0 n (operations_of_deed s l.deed) (omega (arith, same, known))) (order_below s t n ls same all.1)

times_append : (p : ℕ) (xs ys : List ℕ) → times p (xs ++ ys) ≡ times p xs + times p ys
times_append p xs ys =
    count_is_total (λ q. eqb q p) (xs ++ ys)
    ∙ total_append (λ q. bit (eqb q p)) xs ys
    ∙ ap₂ (λ (a b : ℕ). a + b) (sym (count_is_total (λ q. eqb q p) xs)) (sym (count_is_total (λ q. eqb q p) ys))

times_again : (p q : ℕ) (ops : List Op) → times p (map (λ op. q) ops) ≡ length (cond (eqb q p) ops [])
times_again p q [] = elim (eqb q p) as (λ b. 0 ≡ length (cond b (let none : List Op = [] in none) [])) [ true ↦ refl | false ↦ refl ]
times_again p q (op ∷ ops) = times_head p q (map (λ o. q) ops) ∙ ap (λ n. n + cond (eqb q p) 1 0) (times_again p q ops) ∙ more (eqb q p)
  where
    more : (b : Bool) → length (cond b ops []) + cond b 1 0 ≡ length (cond b (op ∷ ops) [])
    more true = omega arith
    more false = refl

-- each process stands in the order as often as it has operations
order_counted : (s : Script) (p : ℕ) (lines : List ScriptLine) → times p (order_of s lines) ≡ length (operations_in s lines p)
order_counted s p [] = refl
order_counted s p (l ∷ ls) =
    times_append p (map (λ op. l.pid.0) (operations_of_deed s l.deed)) (order_of s ls)
    ∙ ap₂ (λ (a b : ℕ). a + b) (times_again p l.pid.0 (operations_of_deed s l.deed)) (order_counted s p ls)
    ∙ sym (length-append (own s l p) (operations_in s ls p))

endings_weigh : (s : Script) (cs : List ℕ) → length (flat_map (ending s) cs) ≡ 2 * length cs
endings_weigh s [] = refl
endings_weigh s (c ∷ cs) = omega (arith, endings_weigh s cs)

-- a deed becomes as many operations as it weighs
deed_weighs : (s : Script) (deed : Deed) → length (operations_of_deed s deed) ≡ weight (family s) deed
deed_weighs s (Does op) = refl
deed_weighs s (Spawns c max) = refl
deed_weighs s (Reaps c) = endings_weigh s (reaped_with (family s) c.0)

-- and so do lines
order_weighs : (s : Script) (lines : List ScriptLine) → length (order_of s lines) ≡ operations_so_far (family s) lines
order_weighs s [] = refl
order_weighs s (l ∷ ls) =
    length-append (map (λ op. l.pid.0) (operations_of_deed s l.deed)) (order_of s ls)
    ∙ ap₂ (λ (a b : ℕ). a + b) (length-map (operations_of_deed s l.deed) (λ op. l.pid.0) ∙ deed_weighs s l.deed) (order_weighs s ls)

-- ---- all operations

-- the operations of each process in the translation
pub operations_are : (s : Script) (p : ℕ) → p < process_count s.header.trace + length s.parents → operations_of (translation s).trace p ≡ operations_in s s.lines p
operations_are s p inside =
    let at : 0 + p ≡ p = omega arith in
    at_number (operations_in s s.lines) 0 (process_count s.header.trace + length s.parents) p [] inside ∙ ap (operations_in s s.lines) at

-- the operations of a translation keep the rules
pub operations_keep : (s : Script) → AreLimited s → AreLines s.header.trace (family s) s.lines → AreOperations (translation s).trace
operations_keep s limited lines =
    let inside : (p : ℕ) → p < process_count (translation s).trace → p < process_count s.header.trace + length s.parents = λ p lt. rw (← processes_are s) lt in
    record {
      each = each_listed ∙ sym (processes_are s);
      in_range = λ p lt. rw (operations_are s p (inside p lt))
          (lines_pass s s.header.trace (in_range (translation s).trace) (λ deed known good. deed_in_range s deed limited known good) p s.lines lines.good);
      spelled = λ p lt. rw (operations_are s p (inside p lt)) (lines_pass s s.header.trace is_spelled (deed_spelled s s.header.trace) p s.lines lines.good);
      of_version = λ p lt. rw (operations_are s p (inside p lt)) (lines_pass s s.header.trace (is_of_version 2) (deed_of_version s s.header.trace) p s.lines lines.good);
      ends = λ p lt. subst EndsWithExit (sym (operations_are s p (inside p lt))) (ends_from s p [] s.lines lines.in_time ends_nil);
      ordered = order_below s s.header.trace (process_count (translation s).trace) s.lines (sym (processes_are s)) lines.good;
      counted = λ p lt. order_counted s p s.lines ∙ ap length (sym (operations_are s p (inside p lt)));
      room = let h = lines.room in omega (arith, order_weighs s s.lines, h);
    }
  where
    each_listed : length (map (operations_in s s.lines) (numbers_below (process_count s.header.trace + length s.parents))) ≡ process_count s.header.trace + length s.parents
    each_listed = length-map (numbers_below (process_count s.header.trace + length s.parents)) (operations_in s s.lines) ∙ numbers_length 0 (process_count s.header.trace + length s.parents)
