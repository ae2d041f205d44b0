-- Sums over lists.
use Rattle.std.proofs.Common.{◌≡◌, ◌≢◌, ◌⊎◌, ℕ, zero, suc, ◌+◌, ◌*◌, ◌<◌, ◌≤◌, ◌==◌, ◌&&◌, ◌||◌, not, Bool, true, false, cond, refl, sym, ap, ap₂, ◌∙◌, List, [], ◌∷◌, ◌++◌, filter, length, set, get_or, count_by, arith, eq-eqb, ne_eqb, inl, inr, zero-le, map}
use Rattle.std.proofs.lemmas.Bool.{cases_eq, false≢true}
use Rattle.std.proofs.lemmas.List.Recursion.{is_count_by}
use Rattle.k_types.specs.Totals.{total}
use Rattle.k_types.specs.Numbers.{numbers_from}
use Rattle.k_types.specs.State.{Object}
use Rattle.k_types.specs.Counts.{one_if_same}

abbrev pub bit : Bool → ℕ
bit b = cond b 1 0

pub sum_same : {A : Type 0} (f g : A → ℕ) → ((x : A) → f x ≡ g x) → (xs : List A) → total f xs ≡ total g xs
sum_same f g same [] = refl
sum_same f g same (x ∷ xs) = ap₂ (λ a b. a + b) (same x) (sum_same f g same xs)

pub sum_added : {A : Type 0} (f g : A → ℕ) (n : ℕ) (xs : List A) → total (λ x. f x + n * g x) xs ≡ total f xs + n * total g xs
sum_added f g n [] = omega arith
sum_added f g n (x ∷ xs) = omega (arith, sum_added f g n xs)

pub sum_filter_step : {A : Type 0} (p : A → Bool) (f : A → ℕ) (x : A) (xs : List A) → total f (filter p xs) ≡ total (λ x. cond (p x) (f x) 0) xs →
    total f (filter p (x ∷ xs)) ≡ total (λ x. cond (p x) (f x) 0) (x ∷ xs)
sum_filter_step p f x xs ih =
    elim (p x) as (λ b. p x ≡ b → total f (cond b (x ∷ filter p xs) (filter p xs)) ≡ cond b (f x) 0 + total (λ x. cond (p x) (f x) 0) xs) [
      | true ↦ λ e. omega arith
      | false ↦ λ e. omega arith
    ] refl

pub sum-filter : {A : Type 0} (p : A → Bool) (f : A → ℕ) (xs : List A) → total f (filter p xs) ≡ total (λ x. cond (p x) (f x) 0) xs
sum-filter p f [] = refl
sum-filter p f (x ∷ xs) = sum_filter_step p f x xs (sum-filter p f xs)

-- of numbers in a row, only m counts
pub none_counts : (g : ℕ → ℕ) (m first n : ℕ) → m < first → total (λ c. cond (c == m) (g c) 0) (numbers_from first n) ≡ 0
none_counts g m first zero low = refl
none_counts g m first (suc n) low =
    rw (ne_eqb first m (λ e. absurd (omega arith))) (omega (arith, none_counts g m (suc first) n (omega arith)))

pub one_counts : (g : ℕ → ℕ) (m first n : ℕ) → first ≤ m → m < first + n → total (λ c. cond (c == m) (g c) 0) (numbers_from first n) ≡ g m
one_counts g m first zero low high = absurd (omega arith)
one_counts g m first (suc n) low high =
    elim (cases_eq first m) [
      | inl e ↦ rw (eq-eqb first m e) (let rest = none_counts g m (suc first) n (omega arith) in let same = ap g e in omega arith)
      | inr ne ↦ rw (ne_eqb first m ne) (omega (arith, one_counts g m (suc first) n (omega arith) (omega arith)))
    ]

pub total_append : {A : Type 0} (f : A → ℕ) (xs ys : List A) → total f (xs ++ ys) ≡ total f xs + total f ys
total_append f [] ys = omega arith
total_append f (x ∷ xs) ys = omega (arith, total_append f xs ys)

pub zeros : {A : Type 0} (xs : List A) → total (λ x. 0) xs ≡ 0
zeros [] = refl
zeros (x ∷ xs) = omega (arith, zeros xs)

pub sum_both : {A : Type 0} (f g : A → ℕ) (xs : List A) → total (λ x. f x + g x) xs ≡ total f xs + total g xs
sum_both f g [] = refl
sum_both f g (x ∷ xs) = omega (arith, sum_both f g xs)

-- one more element
pub total_push : {A : Type 0} (f : A → ℕ) (xs : List A) (x : A) → total f (xs ++ x ∷ []) ≡ total f xs + f x
total_push f xs x = omega (arith, total_append f xs (x ∷ []))

-- an element that is set
pub total_set : {A : Type 0} (f : A → ℕ) (xs : List A) (i : ℕ) (y d : A) → i < length xs → total f (set xs i y) + f (get_or xs i d) ≡ total f xs + f y
total_set f [] i y d inside = absurd (omega arith)
total_set f (x ∷ xs) zero y d inside = omega arith
total_set f (x ∷ xs) (suc i) y d inside = omega (arith, total_set f xs i y d (omega arith))

pub total_at_most : {A : Type 0} (f g : A → ℕ) → ((x : A) → f x ≤ g x) → (xs : List A) → total f xs ≤ total g xs
total_at_most f g less [] = zero-le
total_at_most f g less (x ∷ xs) = omega (arith, less x, total_at_most f g less xs)

-- the sum over what a function gives
pub total_map : {A B : Type 0} (f : B → ℕ) (g : A → B) (xs : List A) → total f (map g xs) ≡ total (λ x. f (g x)) xs
total_map f g [] = refl
total_map f g (x ∷ xs) = ap (λ n. f (g x) + n) (total_map f g xs)

-- ones add up to the length
pub ones : {A : Type 0} (xs : List A) → total (λ x. 1) xs ≡ length xs
ones [] = refl
ones (x ∷ xs) = omega (arith, ones xs)

-- a number is itself, and no other
pub one_if_same-same : (c : ℕ) → one_if_same c c ≡ 1
one_if_same-same c = ap (λ (b : Bool). cond b 1 0) (eq-eqb c c refl)

pub one_if_same-other : (x c : ℕ) → x ≢ c → one_if_same x c ≡ 0
one_if_same-other x c n = ap (λ (b : Bool). cond b 1 0) (ne_eqb x c n)

-- a count is a sum
pub count_is_total : {A : Type 0} (p : A → Bool) (xs : List A) → count_by p xs ≡ total (λ x. bit (p x)) xs
count_is_total p xs = sym (is_count_by (total (λ x. bit (p x))) p refl (λ x xs. elim (p x) as (λ b. bit b + total (λ x. bit (p x)) xs ≡ cond b (1 + total (λ x. bit (p x)) xs) (total (λ x. bit (p x)) xs)) [ true ↦ omega arith | false ↦ omega arith ]) xs)

-- sums over numbers in a row of what agrees, or is less, below the bound
pub same_below : (f g : ℕ → ℕ) (first n : ℕ) → ((t : ℕ) → t < first + n → f t ≡ g t) → total f (numbers_from first n) ≡ total g (numbers_from first n)
same_below f g first zero same = refl
same_below f g first (suc n) same = ap₂ (λ a b. a + b) (same first (omega arith)) (same_below f g (suc first) n (λ t inside. same t (omega (arith, inside))))

pub less_below : (f g : ℕ → ℕ) (first n : ℕ) → ((t : ℕ) → t < first + n → f t ≤ g t) → total f (numbers_from first n) ≤ total g (numbers_from first n)
less_below f g first zero less = omega arith
less_below f g first (suc n) less = omega (arith, less first (omega arith), less_below f g (suc first) n (λ t inside. less t (omega (arith, inside))))

-- a number of a row is at most the sum of those that pass a test that it passes
pub passing_within : (f : ℕ → ℕ) (test : ℕ → Bool) (p first n : ℕ) → test p ≡ true → first ≤ p → p < first + n → f p ≤ total f (filter test (numbers_from first n))
passing_within f test p first zero t low high = absurd (omega (arith, low, high))
passing_within f test p first (suc n) t low high =
    go (λ ne. passing_within f test p (suc first) n t (omega (arith, low, ne)) (omega (arith, high))) (test first) refl (cases_eq first p)
  where
    go : (first ≢ p → f p ≤ total f (filter test (numbers_from (suc first) n))) → (b : Bool) → test first ≡ b → (first ≡ p) ⊎ (first ≢ p) →
        f p ≤ total f (cond b (first ∷ filter test (numbers_from (suc first) n)) (filter test (numbers_from (suc first) n)))
    go rest true e (inl same) = let here = ap f same in omega (arith, here)
    go rest false e (inl same) = absurd (false≢true (sym e ∙ ap test same ∙ t))
    go rest true e (inr ne) = let least = rest ne in omega (arith, least)
    go rest false e (inr ne) = rest ne

-- what passes one test and another, or a third that excludes both, counts once
pub both_or : (a b c : Bool) (n : ℕ) → (a ≡ true → b ≡ true → c ≡ false) → cond ((a && b) || c) n 0 ≡ cond a (cond b n 0) 0 + cond c n 0
both_or true true true n apart = absurd (false≢true (sym (apart refl refl)))
both_or true true false n apart = omega arith
both_or true false true n apart = omega arith
both_or true false false n apart = omega arith
both_or false b true n apart = omega arith
both_or false b false n apart = omega arith

pub not_or_bit : (a b : Bool) → bit (not (not a || b)) ≡ cond a (bit (not b)) 0
not_or_bit true b = refl
not_or_bit false b = refl

-- what two filters of opposite tests keep is all
pub parts_sum : (f : Object → ℕ) (p : Object → Bool) (xs : List Object) → total f (filter p xs) + total f (filter (λ x. not (p x)) xs) ≡ total f xs
parts_sum f p [] = omega arith
parts_sum f p (x ∷ xs) = elim (p x) as (λ b. total f (cond b (x ∷ filter p xs) (filter p xs)) + total f (cond (not b) (x ∷ filter (λ y. not (p y)) xs) (filter (λ y. not (p y)) xs)) ≡ f x + total f xs) [
  | true ↦ omega (arith, parts_sum f p xs)
  | false ↦ omega (arith, parts_sum f p xs)
]
