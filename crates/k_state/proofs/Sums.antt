-- Sums over what is left of a list or of the numbers below a bound.
use Rattle.std.proofs.Common.{◌≡◌, ℕ, suc, ◌+◌, ◌-◌, ◌<◌, ◌≤◌, cond, Bool, true, false, refl, ap, ◌∙◌, List, ◌∷◌, length, filter, get_or, drop, arith, ◌&&◌}
use Rattle.std.proofs.lemmas.List.{drop_more, at_drop_all}
use Rattle.k_types.specs.Totals.{total}
use Rattle.k_types.specs.Numbers.{numbers_from}
use Rattle.std.specs.List.{list_all}

-- what one element adds
pub total_filter : {A : Type 0} (f : A → ℕ) (g : A → Bool) (x : A) (xs : List A) → total f (filter g (x ∷ xs)) ≡ cond (g x) (f x) 0 + total f (filter g xs)
total_filter f g x xs =
    elim (g x) as (λ b. total f (cond b (x ∷ filter g xs) (filter g xs)) ≡ cond b (f x) 0 + total f (filter g xs)) [
      | true ↦ refl
      | false ↦ omega arith
    ]

-- what is left to add of a list
pub sum_left : {A : Type 0} (f : A → ℕ) (g : A → Bool) (xs : List A) (i : ℕ) (d : A) → i < length xs →
    total f (filter g (drop i xs)) ≡ cond (g (get_or xs i d)) (f (get_or xs i d)) 0 + total f (filter g (drop (i + 1) xs))
sum_left f g xs i d inside = ap (λ ys. total f (filter g ys)) (drop_more xs i d inside) ∙ total_filter f g (get_or xs i d) (drop (i + 1) xs)

pub sum_over : {A : Type 0} (f : A → ℕ) (g : A → Bool) (xs : List A) (i : ℕ) → length xs ≤ i → total f (filter g (drop i xs)) ≡ 0
sum_over f g xs i past = at_drop_all (λ ys. total f (filter g ys)) xs i past

pub numbers_left : (i n : ℕ) → i < n → numbers_from i (n - i) ≡ i ∷ numbers_from (i + 1) (n - (i + 1))
numbers_left i n inside =
    let one : n - i ≡ suc (n - (i + 1)) = omega arith in
    let next : suc i ≡ i + 1 = omega arith in
    ap (numbers_from i) one ∙ ap (λ k. i ∷ numbers_from k (n - (i + 1))) next

-- a test of the numbers that are left: of the next one and of the others, and of none
pub all_next : (f : ℕ → Bool) (i n : ℕ) → i < n → list_all f (numbers_from i (n - i)) ≡ (f i && list_all f (numbers_from (i + 1) (n - (i + 1))))
all_next f i n inside = ap (list_all f) (numbers_left i n inside)

pub all_over : (f : ℕ → Bool) (i n : ℕ) → n ≤ i → list_all f (numbers_from i (n - i)) ≡ true
all_over f i n past = let none : n - i ≡ 0 = omega arith in ap (λ k. list_all f (numbers_from i k)) none

-- what is left to add over the numbers below a bound
pub numbers_sum_left : (f : ℕ → ℕ) (g : ℕ → Bool) (i n : ℕ) → i < n →
    total f (filter g (numbers_from i (n - i))) ≡ cond (g i) (f i) 0 + total f (filter g (numbers_from (i + 1) (n - (i + 1))))
numbers_sum_left f g i n inside =
    ap (λ ys. total f (filter g ys)) (numbers_left i n inside) ∙ total_filter f g i (numbers_from (i + 1) (n - (i + 1)))

pub numbers_sum_over : (f : ℕ → ℕ) (g : ℕ → Bool) (i n : ℕ) → n ≤ i → total f (filter g (numbers_from i (n - i))) ≡ 0
numbers_sum_over f g i n past =
    let none : n - i ≡ 0 = omega arith in
    ap (λ k. total f (filter g (numbers_from i k))) none
