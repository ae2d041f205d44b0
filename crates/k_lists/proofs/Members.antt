-- Which numbers are in a list, and at which place.
use Rattle.std.proofs.Common.{◌≡◌, ◌≢◌, ◌==◌, ◌<◌, ◌≤◌, ◌⊎◌, ◌&&◌, ℕ, zero, suc, not, true, false, refl, sym, ap, subst, ◌∙◌, inl, inr, List, [], ◌∷◌, length, slice_get, Some, eqb-true, eq-eqb, arith}
use Rattle.std.specs.List.{list_any, IsDistinct, AllByRecursion}
use Rattle.std.proofs.lemmas.Bool.{or_left, or_right, or_cases, or_parts, and_parts, and_right, cond-true, cond-false, cond_both, true≢false, false≢true, false_from_ne_true, ne_eqb}
use Rattle.std.proofs.lemmas.Map.Views.{any-filter_same}
use Rattle.std.proofs.lemmas.Map.Steps.{length-le_from_distinct_below}
use Rattle.k_lists.specs.Lists.{is_in, without}

pub in_head : (i : ℕ) (xs : List ℕ) → is_in (i ∷ xs) i ≡ true
in_head i xs = or_left (i == i) (is_in xs i) (eq-eqb i i refl)

pub in_tail : (j : ℕ) (xs : List ℕ) (i : ℕ) → is_in xs i ≡ true → is_in (j ∷ xs) i ≡ true
in_tail j xs i e = or_right (j == i) (is_in xs i) e

pub in_cases : (j : ℕ) (xs : List ℕ) (i : ℕ) → is_in (j ∷ xs) i ≡ true → (j ≡ i) ⊎ (is_in xs i ≡ true)
in_cases j xs i e = elim (or_cases (j == i) (is_in xs i) e) [ inl t ↦ inl (eqb-true j i t) | inr t ↦ inr t ]

-- a member is another number than one that isn't
pub in_differs : (xs : List ℕ) (i j : ℕ) → is_in xs i ≡ false → is_in xs j ≡ true → j ≢ i
in_differs xs i j off on same = false≢true (sym off ∙ ap (is_in xs) (sym same) ∙ on)

pub in_at : (xs : List ℕ) (place i : ℕ) → slice_get xs place ≡ Some i → is_in xs i ≡ true
in_at [] place i e = cc
in_at (j ∷ xs) zero i e = let same : j ≡ i = cc in subst (λ k. is_in (j ∷ xs) k ≡ true) same (in_head j xs)
in_at (j ∷ xs) (suc place) i e = in_tail j xs i (in_at xs place i e)

pub place_of : (xs : List ℕ) (i : ℕ) → is_in xs i ≡ true → (place : ℕ) × (slice_get xs place ≡ Some i)
place_of [] i e = absurd (false≢true e)
place_of (j ∷ xs) i e = elim (in_cases j xs i e) [
  | inl same ↦ (0, ap Some same)
  | inr more ↦ let p = place_of xs i more in (suc p.0, p.1)
]

-- no number stands in two places
abbrev pub AreDistinct : List ℕ → Type 0
AreDistinct [] = Unit {0}
AreDistinct (i ∷ xs) = (is_in xs i ≡ false) × AreDistinct xs

pub distinct_from_places : (xs : List ℕ) → ((j k i : ℕ) → slice_get xs j ≡ Some i → slice_get xs k ≡ Some i → j ≡ k) → AreDistinct xs
distinct_from_places [] once = tt
distinct_from_places (i ∷ xs) once = (
  false_from_ne_true (is_in xs i) (λ t.
      let p = place_of xs i t in
      let same : 0 ≡ suc p.0 = once 0 (suc p.0) i refl p.1 in
      omega (arith, same)),
  distinct_from_places xs (λ j k m a b. let same : suc j ≡ suc k = once (suc j) (suc k) m a b in omega (arith, same)),
)

pub distinct_places : (xs : List ℕ) (j k i : ℕ) → AreDistinct xs → slice_get xs j ≡ Some i → slice_get xs k ≡ Some i → j ≡ k
distinct_places [] j k i d a b = cc
distinct_places (m ∷ xs) zero zero i d a b = refl
distinct_places (m ∷ xs) zero (suc k) i d a b = let same : m ≡ i = cc in absurd (in_differs xs m i d.0 (in_at xs k i b) (sym same))
distinct_places (m ∷ xs) (suc j) zero i d a b = let same : m ≡ i = cc in absurd (in_differs xs m i d.0 (in_at xs j i a) (sym same))
distinct_places (m ∷ xs) (suc j) (suc k) i d a b = ap suc (distinct_places xs j k i d.1 a b)

-- distinct numbers below n are at most n
distinct_head : (xs : List ℕ) (i : ℕ) → is_in xs i ≡ false → AllByRecursion (λ j. i == j ≡ false) xs
distinct_head [] i off = tt
distinct_head (j ∷ xs) i off =
    let parts = or_parts (j == i) (is_in xs i) off in
    (ne_eqb i j (λ same. true≢false (sym (eq-eqb j i (sym same)) ∙ parts.0)), distinct_head xs i parts.1)

distinct_keys : (xs : List ℕ) → AreDistinct xs → IsDistinct (λ i j. i == j) xs
unfolding IsDistinct
distinct_keys [] d = tt
distinct_keys (i ∷ xs) d = (distinct_head xs i d.0, distinct_keys xs d.1)

any_turned : (xs : List ℕ) (i : ℕ) → list_any (λ j. i == j) xs ≡ true → is_in xs i ≡ true
any_turned [] i e = e
any_turned (j ∷ xs) i e = elim (or_cases (i == j) (list_any (λ k. i == k) xs) e) [
  | inl t ↦ or_left (j == i) (is_in xs i) (eq-eqb j i (sym (eqb-true i j t)))
  | inr t ↦ in_tail j xs i (any_turned xs i t)
]

pub distinct_length : (xs : List ℕ) (n : ℕ) → AreDistinct xs → ((i : ℕ) → is_in xs i ≡ true → i < n) → length xs ≤ n
distinct_length xs n d below = length-le_from_distinct_below xs n (distinct_keys xs d) (λ i t. below i (any_turned xs i t))

-- the other members
pub without_same : (j i : ℕ) (xs : List ℕ) → j ≡ i → without i (j ∷ xs) ≡ without i xs
without_same j i xs same = cond-false (not (j == i)) (j ∷ without i xs) (without i xs) (ap not (eq-eqb j i same))

pub without_other : (j i : ℕ) (xs : List ℕ) → j ≢ i → without i (j ∷ xs) ≡ j ∷ without i xs
without_other j i xs differs = cond-true (not (j == i)) (j ∷ without i xs) (without i xs) (ap not (ne_eqb j i differs))

in_without : (xs : List ℕ) (i j : ℕ) → is_in (without i xs) j ≡ (not (j == i) && is_in xs j)
in_without xs i j = any-filter_same (λ k. k == j) (λ k. not (k == i)) (not (j == i)) (λ k t. ap (λ m. not (m == i)) (eqb-true k j t)) xs

pub without_in : (xs : List ℕ) (i j : ℕ) → is_in (without i xs) j ≡ true → is_in xs j ≡ true
without_in xs i j e = (and_parts (not (j == i)) (is_in xs j) (sym (in_without xs i j) ∙ e)).1

pub distinct_without : (xs : List ℕ) (i : ℕ) → AreDistinct xs → AreDistinct (without i xs)
distinct_without [] i d = tt
distinct_without (j ∷ xs) i d =
    let rest = distinct_without xs i d.1 in
    cond_both (not (j == i)) (j ∷ without i xs) (without i xs) AreDistinct (λ _. (in_without xs i j ∙ and_right (not (j == i)) (is_in xs j) d.0, rest)) (λ _. rest)
