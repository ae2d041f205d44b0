-- Lists over the numbers below a bound.
use Rattle.std.proofs.Common.{◌≡◌, ℕ, zero, suc, ◌+◌, ◌<◌, ◌≤◌, refl, ap, ◌∙◌, List, ◌∷◌, map, get_or, drop, length, replicate, arith}
use Rattle.std.proofs.lemmas.List.{drop_more, at_drop_all, length-map}
use Rattle.k_types.specs.Numbers.{numbers_from, numbers_below}
use Rattle.k_types.specs.Totals.{total}
use Rattle.k_types.proofs.Lists.{numbers_length, at_number}

-- the value at a number
pub at_below : {A : Type 0} (f : ℕ → A) (n k : ℕ) (d : A) → k < n → get_or (map f (numbers_below n)) k d ≡ f k
at_below f n k d inside = at_number f 0 n k d inside ∙ ap f (omega arith)

constant_from : {A : Type 0} (x : A) (first n : ℕ) → map (λ (p : ℕ). x) (numbers_from first n) ≡ replicate n x
constant_from x first zero = refl
constant_from x first (suc n) = ap (λ xs. x ∷ xs) (constant_from x (suc first) n)

-- the same value at each number
pub constant_below : {A : Type 0} (x : A) (n : ℕ) → map (λ (p : ℕ). x) (numbers_below n) ≡ replicate n x
constant_below x n = constant_from x 0 n

-- how many there are
pub below_length : {A : Type 0} (f : ℕ → A) (n : ℕ) → length (map f (numbers_below n)) ≡ n
below_length f n = length-map (numbers_below n) f ∙ numbers_length 0 n

-- what is left to add of a list
pub total_left : {A : Type 0} (f : A → ℕ) (xs : List A) (i : ℕ) (d : A) → i < length xs → total f (drop i xs) ≡ f (get_or xs i d) + total f (drop (i + 1) xs)
total_left f xs i d inside = ap (λ ys. total f ys) (drop_more xs i d inside)

pub total_over : {A : Type 0} (f : A → ℕ) (xs : List A) (i : ℕ) → length xs ≤ i → total f (drop i xs) ≡ 0
total_over f xs i past = at_drop_all (λ ys. total f ys) xs i past
