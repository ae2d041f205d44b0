-- The list of a child: whose children stand before them, and whom it holds.
use Rattle.std.proofs.Common.{◌≡◌, ◌⊎◌, ◌∙◌, ℕ, zero, suc, ◌+◌, ◌-◌, ◌<◌, ◌≤◌, ◌==◌, ◌||◌, Bool, true, false, cond, List, [], ◌∷◌, ◌++◌, filter, length, refl, sym, ap, subst, arith, inl, inr, eq-eqb, eqb-true, IsTrue}
use Rattle.std.specs.List.{flat_map}
use Rattle.std.proofs.lemmas.Bool.{cases_eq, false≢true, or_cases, or_left, or_right}
use Rattle.std.proofs.lemmas.List.Folds.{list_any-append}
use Rattle.k_types.specs.Names.{among}
use Rattle.k_types.specs.Numbers.{numbers_from}
use Rattle.k_spawn.specs.Families.{Family, IsFamily, children_of, parent_of, reaped_within, reaped_with}
use Rattle.k_types.proofs.Numbered.{listed_from}

-- a number that is in a list, and one that passes a test among numbers in a row
pub among_head : (n : ℕ) (ns : List ℕ) → IsTrue (among n (n ∷ ns))
among_head n ns = or_left (n == n) _ (eq-eqb n n refl)

pub among_append : (n : ℕ) (xs ys : List ℕ) → among n (xs ++ ys) ≡ (among n xs || among n ys)
among_append n xs ys = list_any-append (λ m. m == n) xs ys

pub among_one : (n m : ℕ) → IsTrue (among n (m ∷ [])) → m ≡ n
among_one n m t = elim (or_cases (m == n) false t) [ inl e ↦ eqb-true m n e | inr f ↦ absurd (false≢true f) ]

pub passes_from : (test : ℕ → Bool) (first n k : ℕ) → IsTrue (among k (filter test (numbers_from first n))) → (first ≤ k) × (k < first + n) × IsTrue (test k)
passes_from test first zero k t = absurd (false≢true t)
passes_from test first (suc n) k t = go (test first) refl (λ t. passes_from test (suc first) n k t) t
  where
    go : (b : Bool) → test first ≡ b → (IsTrue (among k (filter test (numbers_from (suc first) n))) → (suc first ≤ k) × (k < suc first + n) × IsTrue (test k)) →
        IsTrue (among k (cond b (first ∷ filter test (numbers_from (suc first) n)) (filter test (numbers_from (suc first) n)))) → (first ≤ k) × (k < first + suc n) × IsTrue (test k)
    go false e rest t = let is = rest t in (let h = is.0 in omega (arith, h), let h = is.1 in omega (arith, h), is.2)
    go true e rest t = elim (or_cases (first == k) (among k (filter test (numbers_from (suc first) n))) t) [
      | inl here ↦ let same : first ≡ k = eqb-true first k here in (omega (arith, same), omega (arith, same), ap test (sym same) ∙ e)
      | inr there ↦ let is = rest there in (let h = is.0 in omega (arith, h), let h = is.1 in omega (arith, h), is.2)
    ]

-- a number in lists that are joined is in one of them
pub among_joined : (g : ℕ → List ℕ) (xs : List ℕ) (n : ℕ) → IsTrue (among n (flat_map g xs)) → (x : ℕ) × IsTrue (among x xs) × IsTrue (among n (g x))
among_joined g [] n t = absurd (false≢true t)
among_joined g (x ∷ xs) n t = elim (or_cases (among n (g x)) (among n (flat_map g xs)) (sym (among_append n (g x) (flat_map g xs)) ∙ t)) [
  | inl here ↦ (x, among_head x xs, here)
  | inr there ↦ let rest = among_joined g xs n there in (rest.0, or_right (x == rest.0) _ rest.1, rest.2)
]

pub joined_among : (g : ℕ → List ℕ) (xs : List ℕ) (x n : ℕ) → IsTrue (among x xs) → IsTrue (among n (g x)) → IsTrue (among n (flat_map g xs))
joined_among g [] x n there t = absurd (false≢true there)
joined_among g (y ∷ ys) x n there t =
    among_append n (g y) (flat_map g ys)
    ∙ (elim (or_cases (y == x) (among x ys) there) [
      | inl same ↦ or_left _ _ (ap (λ z. among n (g z)) (eqb-true y x same) ∙ t)
      | inr later ↦ or_right (among n (g y)) _ (joined_among g ys x n later t)
    ])

module _ (f : Family) where
  abbrev all : ℕ
  all = f.first + length f.parents

  pub child_of : (c d : ℕ) → IsTrue (among d (children_of f c)) → (f.first ≤ d) × (d < all) × (parent_of f d ≡ c)
  child_of c d t = let is = passes_from (λ d. parent_of f d == c) f.first (length f.parents) d t in (is.0, is.1, eqb-true (parent_of f d) c is.2)

  pub of_child : (c d : ℕ) → f.first ≤ d → d < all → parent_of f d ≡ c → IsTrue (among d (children_of f c))
  of_child c d low high e = listed_from (λ d. parent_of f d == c) f.first (length f.parents) d low high (eq-eqb (parent_of f d) c e)

  -- what is in the list of a child
  pub in_list : (depth c n : ℕ) → IsTrue (among n (reaped_within f (suc depth) c)) → ((d : ℕ) × IsTrue (among d (children_of f c)) × IsTrue (among n (reaped_within f depth d))) ⊎ (c ≡ n)
  unfolding reaped_within
  in_list depth c n t = elim (or_cases (among n (flat_map (reaped_within f depth) (children_of f c))) (among n (c ∷ [])) (sym (among_append n (flat_map (reaped_within f depth) (children_of f c)) (c ∷ [])) ∙ t)) [
    | inl there ↦ inl (among_joined (reaped_within f depth) (children_of f c) n there)
    | inr here ↦ inr (among_one n c here)
  ]

  pub empty_list : (c n : ℕ) → IsTrue (among n (reaped_within f zero c)) → ⊥
  unfolding reaped_within
  empty_list c n t = false≢true t

  pub itself : (depth c : ℕ) → IsTrue (among c (reaped_within f (suc depth) c))
  unfolding reaped_within
  itself depth c = among_append c (flat_map (reaped_within f depth) (children_of f c)) (c ∷ []) ∙ or_right _ _ (among_head c [])

  -- something that goes from each child to its children, and holds of a child, holds of all of its list
  pub down_list : (P : ℕ → Type 0) → ((c d : ℕ) → f.first ≤ d → d < all → parent_of f d ≡ c → P c → P d) → (depth c n : ℕ) → P c → IsTrue (among n (reaped_within f depth c)) → P n
  down_list P down zero c n here t = absurd (empty_list c n t)
  down_list P down (suc depth) c n here t = elim (in_list depth c n t) [
    | inl there ↦ let is = child_of c there.0 there.1 in down_list P down depth there.0 n (down c there.0 is.0 is.1 is.2 here) there.2
    | inr same ↦ subst P same here
  ]

  -- the parent of whoever else is in the list is in it
  pub parent_in_list : (depth c n : ℕ) → (c ≡ n → ⊥) → IsTrue (among n (reaped_within f depth c)) → IsTrue (among (parent_of f n) (reaped_within f depth c))
  unfolding reaped_within
  parent_in_list zero c n other t = absurd (empty_list c n t)
  parent_in_list (suc depth) c n other t = elim (in_list depth c n t) [
    | inr same ↦ absurd (other same)
    | inl there ↦ elim (cases_eq there.0 n) [
      | inl is ↦ let parent = (child_of c there.0 there.1).2 in ap (λ q. among (parent_of f q) (reaped_within f (suc depth) c)) (sym is) ∙ ap (λ q. among q (reaped_within f (suc depth) c)) parent ∙ itself depth c
      | inr ne ↦ among_append (parent_of f n) (flat_map (reaped_within f depth) (children_of f c)) (c ∷ [])
          ∙ or_left _ _ (joined_among (reaped_within f depth) (children_of f c) there.0 (parent_of f n) there.1 (parent_in_list depth there.0 n ne there.2))
    ]
  ]

  -- whoever stands in the list has all its children before it, or among those
  abbrev pub ComeAfter : List ℕ → List ℕ → Type 0
  ComeAfter before [] = Unit {0}
  ComeAfter before (c ∷ cs) = ((d : ℕ) → IsTrue (among d (children_of f c)) → IsTrue (among d before)) × ComeAfter (c ∷ before) cs

  abbrev past : List ℕ → List ℕ → List ℕ
  past before [] = before
  past before (c ∷ cs) = past (c ∷ before) cs

  past_has : (cs before : List ℕ) (d : ℕ) → IsTrue (among d before) ⊎ IsTrue (among d cs) → IsTrue (among d (past before cs))
  past_has [] before d (inl t) = t
  past_has [] before d (inr t) = absurd (false≢true t)
  past_has (c ∷ cs) before d (inl t) = past_has cs (c ∷ before) d (inl (or_right (c == d) _ t))
  past_has (c ∷ cs) before d (inr t) = elim (or_cases (c == d) (among d cs) t) [
    | inl here ↦ past_has cs (c ∷ before) d (inl (or_left _ _ here))
    | inr there ↦ past_has cs (c ∷ before) d (inr there)
  ]

  wider : (cs before more : List ℕ) → ((d : ℕ) → IsTrue (among d before) → IsTrue (among d more)) → ComeAfter before cs → ComeAfter more cs
  wider [] before more all_in after = tt
  wider (c ∷ cs) before more all_in after = (λ d t. all_in d (after.0 d t), wider cs (c ∷ before) (c ∷ more) (λ d t. keep d (or_cases (c == d) (among d before) t)) after.1)
    where
      keep : (d : ℕ) → ((c == d) ≡ true) ⊎ (among d before ≡ true) → IsTrue (among d (c ∷ more))
      keep d (inl t) = or_left _ _ t
      keep d (inr t) = or_right (c == d) _ (all_in d t)

  joined : (cs ds before : List ℕ) → ComeAfter before cs → ComeAfter (past before cs) ds → ComeAfter before (cs ++ ds)
  joined [] ds before one two = two
  joined (c ∷ cs) ds before one two = (one.0, joined cs ds (c ∷ before) one.1 two)

  all_joined : (g : ℕ → List ℕ) (cs before : List ℕ) → ((c : ℕ) → IsTrue (among c cs) → ComeAfter [] (g c)) → ComeAfter before (flat_map g cs)
  all_joined g [] before each = tt
  all_joined g (c ∷ cs) before each =
      joined (g c) (flat_map g cs) before (wider (g c) [] before (λ d t. absurd (false≢true t)) (each c (among_head c cs)))
      (all_joined g cs (past before (g c)) (λ d t. each d (or_right (c == d) _ t)))

  list_order : IsFamily f → (depth c : ℕ) → all ≤ c + depth → ComeAfter [] (reaped_within f depth c)
  unfolding reaped_within
  list_order fam zero c deep = tt
  list_order fam (suc depth) c deep =
      joined (flat_map (reaped_within f depth) (children_of f c)) (c ∷ []) []
      (all_joined (reaped_within f depth) (children_of f c) [] (λ d t. list_order fam depth d (deeper d t)))
      ((λ d t. past_has (flat_map (reaped_within f depth) (children_of f c)) [] d (inr (joined_among (reaped_within f depth) (children_of f c) d d t (present d t)))), tt)
    where
      after : (d : ℕ) → IsTrue (among d (children_of f c)) → c < d
      after d t =
          let is = child_of c d t in
          let place : f.first + (d - f.first) ≡ d = let h = is.0 in omega (arith, h) in
          let before : parent_of f d < f.first + (d - f.first) = fam.before (d - f.first) (let h = is.0 in let k = is.1 in omega (arith, h, k)) in
          let same : parent_of f d ≡ c = is.2 in
          omega (arith, place, before, same)

      deeper : (d : ℕ) → IsTrue (among d (children_of f c)) → all ≤ d + depth
      deeper d t = let h = after d t in omega (arith, h, deep)

      deep_enough : (depth : ℕ) (d : ℕ) → d < all → all ≤ d + depth → (k : ℕ) × (depth ≡ suc k)
      deep_enough zero d less le = absurd (omega (arith, less, le))
      deep_enough (suc k) d less le = (k, refl)

      present : (d : ℕ) → IsTrue (among d (children_of f c)) → IsTrue (among d (reaped_within f depth d))
      present d t =
          let k = deep_enough depth d (child_of c d t).1 (deeper d t) in
          ap (λ n. among d (reaped_within f n d)) k.1 ∙ itself k.0 d

  -- the list of a child
  pub list_ordered : IsFamily f → (c : ℕ) → f.first ≤ c → ComeAfter [] (reaped_with f c)
  list_ordered fam c low = list_order fam (length f.parents) c (omega (arith, low))
