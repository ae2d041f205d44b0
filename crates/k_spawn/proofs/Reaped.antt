-- The list of a child, gathered child by child.
use Rattle.std.proofs.Common.{◌≡◌, ◌∙◌, ℕ, zero, suc, ◌+◌, ◌-◌, ◌<◌, ◌≤◌, ◌==◌, Bool, true, false, cond, List, [], ◌∷◌, ◌++◌, filter, length, refl, sym, ap, slice_index_or, arith, append_assoc, append-nil, subst, ne_eqb}
use Rattle.std.proofs.lemmas.Bool.{eq-eqb}
use Rattle.std.specs.List.{flat_map, AllByRecursion}
use Rattle.k_types.specs.declared.names.Pid.{Pid}
use Rattle.k_types.specs.Numbers.{numbers_from}
use Rattle.k_spawn.specs.Families.{Family, parent_of, reaped_within}

-- what a function gives for the numbers in a row that pass a test
abbrev gathered : (ℕ → List ℕ) → (ℕ → Bool) → ℕ → ℕ → List ℕ
gathered g test first n = flat_map g (filter test (numbers_from first n))

gathered_step : (g : ℕ → List ℕ) (test : ℕ → Bool) (first n : ℕ) → gathered g test first (suc n) ≡ cond (test first) (g first ++ gathered g test (suc first) n) (gathered g test (suc first) n)
gathered_step g test first n =
    elim (test first) as (λ b. flat_map g (cond b (first ∷ filter test (numbers_from (suc first) n)) (filter test (numbers_from (suc first) n))) ≡ cond b (g first ++ gathered g test (suc first) n) (gathered g test (suc first) n)) [
      | true ↦ refl
      | false ↦ refl
    ]

-- the lists of the children of a process that stand at that place or behind
abbrev pub lists_from : Family → ℕ → ℕ → ℕ → List ℕ
lists_from f depth p k = gathered (reaped_within f depth) (λ c. parent_of f c == p) (f.first + k) (length f.parents - k)

-- the process of the child at a place is that far behind the first
at_place : (f : Family) (p k : ℕ) → (parent_of f (f.first + k) == p) ≡ ((slice_index_or f.parents k (record { 0 = 0 })).0 == p)
at_place f p k = ap (λ i. (slice_index_or f.parents i (record { 0 = 0 })).0 == p) (omega arith)

pub lists_step : (f : Family) (depth p k : ℕ) → k < length f.parents →
    lists_from f depth p k ≡ cond ((slice_index_or f.parents k (record { 0 = 0 })).0 == p) (reaped_within f depth (f.first + k) ++ lists_from f depth p (k + 1)) (lists_from f depth p (k + 1))
lists_step f depth p k inside =
    let g = reaped_within f depth in
    let test = λ (c : ℕ). parent_of f c == p in
    let one : length f.parents - k ≡ suc (length f.parents - (k + 1)) = omega (arith, inside) in
    let next : suc (f.first + k) ≡ f.first + (k + 1) = omega arith in
    ap (gathered g test (f.first + k)) one
    ∙ gathered_step g test (f.first + k) (length f.parents - (k + 1))
    ∙ ap (λ b. cond b (g (f.first + k) ++ gathered g test (suc (f.first + k)) (length f.parents - (k + 1))) (gathered g test (suc (f.first + k)) (length f.parents - (k + 1)))) (at_place f p k)
    ∙ ap (λ n. cond ((slice_index_or f.parents k (record { 0 = 0 })).0 == p) (g (f.first + k) ++ gathered g test n (length f.parents - (k + 1))) (gathered g test n (length f.parents - (k + 1)))) next

pub lists_end : (f : Family) (depth p k : ℕ) → length f.parents ≡ k → lists_from f depth p k ≡ []
lists_end f depth p k done =
    let none : length f.parents - k ≡ 0 = omega (arith, done) in
    ap (λ n. gathered (reaped_within f depth) (λ c. parent_of f c == p) (f.first + k) n) none

-- the list of a process is those of all its children, and then itself
list_is : (f : Family) (depth p : ℕ) → reaped_within f (suc depth) p ≡ lists_from f depth p 0 ++ p ∷ []
unfolding reaped_within
list_is f depth p =
    let first : f.first ≡ f.first + 0 = omega arith in
    let all : length f.parents ≡ length f.parents - 0 = omega arith in
    ap (λ n. gathered (reaped_within f depth) (λ c. parent_of f c == p) n (length f.parents) ++ p ∷ []) first
    ∙ ap (λ n. gathered (reaped_within f depth) (λ c. parent_of f c == p) (f.first + 0) n ++ p ∷ []) all

pub list_at : (f : Family) (depth p : ℕ) → 0 < depth → reaped_within f depth p ≡ lists_from f (depth - 1) p 0 ++ p ∷ []
list_at f zero p some = absurd (omega (arith, some))
list_at f (suc depth) p some =
    let less : depth ≡ suc depth - 1 = omega arith in
    list_is f depth p ∙ ap (λ d. lists_from f d p 0 ++ p ∷ []) less

-- so deep there is nothing
pub no_list : (f : Family) (depth p : ℕ) → depth ≡ 0 → reaped_within f depth p ≡ []
unfolding reaped_within
no_list f zero p none = refl
no_list f (suc depth) p none = absurd (omega (arith, none))

-- what stands at a place, whatever stands for nothing
same_within : (xs : List Pid) (k : ℕ) (x d : Pid) → k < length xs → x ≡ slice_index_or xs k x → slice_index_or xs k d ≡ x
same_within [] k x d inside here = absurd (omega (arith, inside))
same_within (y ∷ ys) zero x d inside here = sym here
same_within (y ∷ ys) (suc k) x d inside here = same_within ys k x d (omega (arith, inside)) here

-- the parent of the child at a place
pub parent_here : (f : Family) (k : ℕ) (here : Pid) → k < length f.parents → here ≡ slice_index_or f.parents k here → parent_of f (f.first + k) ≡ here.0
parent_here f k here inside is =
    let place : f.first + k - f.first ≡ k = omega arith in
    ap (λ i. (slice_index_or f.parents i (record { 0 = 0 })).0) place ∙ ap (λ (it : Pid). it.0) (same_within f.parents k here (record { 0 = 0 }) inside is)

module _ (f : Family) (depth p k : ℕ) (here : Pid) (old list new : List ℕ) (inside : k < length f.parents) (is_here : here ≡ slice_index_or f.parents k here) (kept : old ++ lists_from f depth p 0 ≡ list ++ lists_from f depth p k) where
  test_is : ((slice_index_or f.parents k (record { 0 = 0 })).0 == p) ≡ (here.0 == p)
  test_is = ap (λ (it : Pid). it.0 == p) (same_within f.parents k here (record { 0 = 0 }) inside is_here)

  -- after a child of the process
  pub kept_by_child : here.0 ≡ p → new ≡ list ++ reaped_within f depth (f.first + k) → old ++ lists_from f depth p 0 ≡ new ++ lists_from f depth p (k + 1)
  kept_by_child is grown =
      kept
      ∙ ap (λ ls. list ++ ls) (lists_step f depth p k inside ∙ ap (λ b. cond b (reaped_within f depth (f.first + k) ++ lists_from f depth p (k + 1)) (lists_from f depth p (k + 1))) (test_is ∙ eq-eqb here.0 p is))
      ∙ sym (append_assoc list (reaped_within f depth (f.first + k)) (lists_from f depth p (k + 1)))
      ∙ ap (λ ls. ls ++ lists_from f depth p (k + 1)) (sym grown)

  -- after a child of another
  pub kept_by_other : (here.0 ≡ p → ⊥) → new ≡ list → old ++ lists_from f depth p 0 ≡ new ++ lists_from f depth p (k + 1)
  kept_by_other is same =
      kept
      ∙ ap (λ ls. list ++ ls) (lists_step f depth p k inside ∙ ap (λ b. cond b (reaped_within f depth (f.first + k) ++ lists_from f depth p (k + 1)) (lists_from f depth p (k + 1))) (test_is ∙ ne_eqb here.0 p is))
      ∙ ap (λ ls. ls ++ lists_from f depth p (k + 1)) (sym same)

-- the list once all children were looked at
pub list_done : (f : Family) (depth p k : ℕ) (old list : List ℕ) → 0 < depth → length f.parents ≡ k → old ++ lists_from f (depth - 1) p 0 ≡ list ++ lists_from f (depth - 1) p k → list ++ p ∷ [] ≡ old ++ reaped_within f depth p
list_done f depth p k old list some done kept =
    let whole : old ++ lists_from f (depth - 1) p 0 ≡ list = kept ∙ ap (λ ls. list ++ ls) (lists_end f (depth - 1) p k done) ∙ append-nil list in
    ap (λ ls. ls ++ p ∷ []) (sym whole) ∙ append_assoc old (lists_from f (depth - 1) p 0) (p ∷ []) ∙ ap (λ ls. old ++ ls) (sym (list_at f depth p some))

-- the numbers in a list are below a bound
abbrev pub AreBelow : ℕ → List ℕ → Type 0
AreBelow bound ns = AllByRecursion (λ n. n < bound) ns

below_append : (bound : ℕ) (ns ms : List ℕ) → AreBelow bound ns → AreBelow bound ms → AreBelow bound (ns ++ ms)
below_append bound [] ms all more = more
below_append bound (n ∷ ns) ms all more = (all.0, below_append bound ns ms all.1 more)

gathered_below : (bound : ℕ) (g : ℕ → List ℕ) (test : ℕ → Bool) (first n : ℕ) → ((q : ℕ) → q < bound → AreBelow bound (g q)) → first + n ≤ bound → AreBelow bound (gathered g test first n)
gathered_below bound g test first zero each room = tt
gathered_below bound g test first (suc n) each room =
    let rest = gathered_below bound g test (suc first) n each (omega (arith, room)) in
    subst (AreBelow bound) (sym (gathered_step g test first n)) (elim (test first) as (λ b. AreBelow bound (cond b (g first ++ gathered g test (suc first) n) (gathered g test (suc first) n))) [
      | true ↦ below_append bound (g first) _ (each first (omega (arith, room))) rest
      | false ↦ rest
    ])

-- whom the reaping of a process ends are processes
pub reaped_below : (f : Family) (depth p : ℕ) → p < f.first + length f.parents → AreBelow (f.first + length f.parents) (reaped_within f depth p)
unfolding reaped_within
reaped_below f zero p inside = tt
reaped_below f (suc depth) p inside =
    below_append _ _ (p ∷ []) (gathered_below (f.first + length f.parents) (reaped_within f depth) (λ c. parent_of f c == p) f.first (length f.parents) (reaped_below f depth) (omega arith)) (inside, tt)

pub below_more : (a b : ℕ) (ns : List ℕ) → a ≤ b → AreBelow a ns → AreBelow b ns
below_more a b [] le all = tt
below_more a b (n ∷ ns) le all = (omega (arith, le, all.0), below_more a b ns le all.1)
