-- What is marked beside the lines.
use Rattle.std.proofs.Common.{◌≡◌, ◌∙◌, ℕ, ◌+◌, ◌*◌, ◌<◌, ◌≤◌, ◌==◌, ◌&&◌, ◌||◌, Bool, true, false, List, [], ◌∷◌, ◌++◌, length, map, refl, sym, ap, arith, replicate, slice_index_or, slice_set, subst, ne_eqb}
use Rattle.std.proofs.lemmas.Grind.{common_steps}
use Rattle.std.proofs.lemmas.Bool.{eq-eqb}
use Rattle.std.proofs.lemmas.List.{get_or-replicate, length-map}
use Rattle.std.specs.List.{list_any}
use Rattle.k_types.specs.declared.names.Pid.{Pid}
use Rattle.k_types.specs.declared.op.Op.{Op}
use Rattle.k_types.specs.Names.{among}
use Rattle.k_types.specs.TraceRules.{is_exit}
use Rattle.k_spawn.specs.declared.script.Deed.{Deed}
use Rattle.k_spawn.specs.declared.script.Deed.TheVariants.{Does, Spawns, Reaps}
use Rattle.k_spawn.specs.declared.script.ScriptLine.{ScriptLine}
use Rattle.k_spawn.specs.Courses.{IsKept, AreMarked, reaped_by, weight_by}
use Rattle.k_spawn.specs.Families.{Family, reaped_with}
use Rattle.k_spawn.specs.Timely.{spawns, reaps, exits, weight}
use Rattle.k_types.proofs.Sums.{total_push}

any_push : {A : Type 0} (test : A → Bool) (xs : List A) (y : A) → list_any test (xs ++ y ∷ []) ≡ (list_any test xs || test y)
any_push test [] y = grind (arith, common_steps)
any_push test (x ∷ xs) y = grind (arith, common_steps, any_push test xs y)

-- nobody is marked at first
pub kept_fresh : (f : Family) → f.first + length f.parents ≤ 64 → IsKept f [] (replicate 64 false) (replicate 64 false) (replicate 64 false) 0
kept_fresh f few = record {
  of_spawned = λ p inside. get_or-replicate 64 p false false inside;
  of_reaped = λ p inside. get_or-replicate 64 p false false inside;
  of_left = λ p inside. get_or-replicate 64 p false false inside;
  counted = refl;
  few = omega arith;
  processes = few;
}

-- the marks grow by what the deed does
pub record GrowsBy (old new : List Bool) (marks : ℕ → Bool) : Type 0 where
  pub each : (p : ℕ) → p < 64 → slice_index_or new p false ≡ (slice_index_or old p false || marks p)

module _ (f : Family) (lines : List ScriptLine) (spawned reaped left : List Bool) (operations : ℕ) (l : ScriptLine) (kept : IsKept f lines spawned reaped left operations) where
  kept_push : (spawned' reaped' left' : List Bool) (operations' : ℕ) → GrowsBy spawned spawned' (λ c. spawns c l.deed) → GrowsBy reaped reaped' (λ c. reaps f c l.deed)
      → GrowsBy left left' (λ p. (l.pid.0 == p) && exits l.deed) → operations' ≡ operations + weight f l.deed → operations' ≤ 200000 → IsKept f (lines ++ l ∷ []) spawned' reaped' left' operations'
  kept_push spawned' reaped' left' operations' of_spawned of_reaped of_left counted few = record {
    of_spawned = λ p inside. of_spawned.each p inside ∙ ap (λ b. b || spawns p l.deed) (kept.of_spawned p inside) ∙ sym (any_push (λ (x : ScriptLine). spawns p x.deed) lines l);
    of_reaped = λ p inside. of_reaped.each p inside ∙ ap (λ b. b || reaps f p l.deed) (kept.of_reaped p inside) ∙ sym (any_push (λ (x : ScriptLine). reaps f p x.deed) lines l);
    of_left = λ p inside. of_left.each p inside ∙ ap (λ b. b || ((l.pid.0 == p) && exits l.deed)) (kept.of_left p inside) ∙ sym (any_push (λ (x : ScriptLine). (x.pid.0 == p) && exits x.deed) lines l);
    counted = counted ∙ ap (λ n. n + weight f l.deed) kept.counted ∙ sym (total_push (λ (x : ScriptLine). weight f x.deed) lines l);
    few = few;
    processes = kept.processes;
  }

-- nothing more is marked
grows_not : (old : List Bool) (marks : ℕ → Bool) → ((p : ℕ) → marks p ≡ false) → GrowsBy old old marks
grows_not old marks none = record { each = λ p inside. grind (arith, common_steps, none p) }

-- one more is marked
grows_one : (old : List Bool) (at : ℕ) (value : Bool) (marks : ℕ → Bool) → length old ≡ 64 → at < 64 → value ≡ (slice_index_or old at false || marks at) → ((p : ℕ) → (at ≡ p → ⊥) → marks p ≡ false) → GrowsBy old (slice_set old at value) marks
grows_one old at value marks long inside is others = record { each = λ p below. by_test p below (at == p) refl }
  where
    by_test : (p : ℕ) → p < 64 → (b : Bool) → (at == p) ≡ b → slice_index_or (slice_set old at value) p false ≡ (slice_index_or old p false || marks p)
    by_test p below true e = grind (arith, common_steps, is)
    by_test p below false e = grind (arith, common_steps, others p)

and_false : (b : Bool) → (b && false) ≡ false
and_false true = refl
and_false false = refl

or_true : (b : Bool) → true ≡ (b || true)
or_true true = refl
or_true false = refl

module _ (f : Family) (lines : List ScriptLine) (spawned reaped left : List Bool) (operations : ℕ) (pid : Pid) (deed : Deed) (new : List ScriptLine) (after : ℕ)
    (kept : IsKept f lines spawned reaped left operations) (stored : new ≡ lines ++ record { pid = pid; deed = deed } ∷ []) (counted : after ≡ operations + weight f deed) (few : after ≤ 200000) where
  -- the line with what it is known to do
  abbrev with_known : Deed → List ScriptLine
  with_known known = lines ++ record { pid = pid; deed = known } ∷ []

  known_line : (known : Deed) → deed ≡ known → new ≡ with_known known
  known_line known is = stored ∙ ap with_known is

  known_count : (known : Deed) → deed ≡ known → after ≡ operations + weight f known
  known_count known is = counted ∙ ap (λ d. operations + weight f d) is

  -- after an operation
  pub does_kept : (op : Op) (now : Bool) → deed ≡ Does op → length left ≡ 64 → pid.0 < 64 → now ≡ (slice_index_or left pid.0 false || is_exit op) → IsKept f new spawned reaped (slice_set left pid.0 now) after
  does_kept op now is long inside left_is =
      subst (λ ls. IsKept f ls spawned reaped (slice_set left pid.0 now) after) (sym (known_line (Does op) is))
      (kept_push f lines spawned reaped left operations (record { pid = pid; deed = Does op }) kept spawned reaped (slice_set left pid.0 now) after
      (grows_not spawned (λ c. spawns c (Does op)) (λ p. refl)) (grows_not reaped (λ c. reaps f c (Does op)) (λ p. refl))
      (grows_one left pid.0 now (λ p. (pid.0 == p) && is_exit op) long inside
      (left_is ∙ ap (λ b. slice_index_or left pid.0 false || (b && is_exit op)) (sym (eq-eqb pid.0 pid.0 refl))) (λ p apart. ap (λ b. b && is_exit op) (ne_eqb pid.0 p apart)))
      (known_count (Does op) is) few)

  -- after a spawn
  pub spawns_kept : (c : Pid) (max : ℕ) → deed ≡ Spawns c max → length spawned ≡ 64 → c.0 < 64 → IsKept f new (slice_set spawned c.0 true) reaped left after
  spawns_kept c max is long inside =
      subst (λ ls. IsKept f ls (slice_set spawned c.0 true) reaped left after) (sym (known_line (Spawns c max) is))
      (kept_push f lines spawned reaped left operations (record { pid = pid; deed = Spawns c max }) kept (slice_set spawned c.0 true) reaped left after
      (grows_one spawned c.0 true (λ p. c.0 == p) long inside (or_true (slice_index_or spawned c.0 false) ∙ ap (λ b. slice_index_or spawned c.0 false || b) (sym (eq-eqb c.0 c.0 refl))) (ne_eqb c.0))
      (grows_not reaped (λ p. reaps f p (Spawns c max)) (λ p. refl)) (grows_not left (λ p. (pid.0 == p) && false) (λ p. and_false (pid.0 == p)))
      (known_count (Spawns c max) is) few)

  -- after a reaping
  pub reaps_kept : (c : Pid) (pids : List Pid) (marked : List Bool) → deed ≡ Reaps c → AreMarked reaped marked pids → map (λ (it : Pid). it.0) pids ≡ reaped_by f deed → IsKept f new spawned marked left after
  reaps_kept c pids marked is marks listed =
      let whom : map (λ (it : Pid). it.0) pids ≡ reaped_with f c.0 = listed ∙ ap (reaped_by f) is in
      subst (λ ls. IsKept f ls spawned marked left after) (sym (known_line (Reaps c) is))
      (kept_push f lines spawned reaped left operations (record { pid = pid; deed = Reaps c }) kept spawned marked left after
      (grows_not spawned (λ p. spawns p (Reaps c)) (λ p. refl)) (record { each = λ p inside. marks p inside ∙ ap (λ ns. slice_index_or reaped p false || among p ns) whom })
      (grows_not left (λ p. (pid.0 == p) && false) (λ p. and_false (pid.0 == p)))
      (known_count (Reaps c) is) few)

-- the weight by how many are reaped
pub weight_is : (f : Family) (deed : Deed) (pids : List Pid) → map (λ (it : Pid). it.0) pids ≡ reaped_by f deed → weight_by deed (length pids) ≡ weight f deed
weight_is f (Does op) pids listed = refl
weight_is f (Spawns c max) pids listed = refl
weight_is f (Reaps c) pids listed = ap (λ n. 2 * n) (sym (length-map pids (λ (it : Pid). it.0)) ∙ ap length listed)
