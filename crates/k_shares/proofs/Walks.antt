-- Searches through the numbers below a bound, from one on.
use Rattle.std.proofs.Common.{◌≡◌, ℕ, suc, ◌+◌, ◌-◌, ◌<◌, ◌≤◌, ◌||◌, Bool, true, false, cond, sym, ap, ◌∙◌, find, Option, Some, None, arith}
use Rattle.std.specs.List.{list_any}
use Rattle.k_types.specs.Numbers.{numbers_from}

-- some number from k on passes
abbrev pub any_since : (ℕ → Bool) → ℕ → ℕ → Bool
any_since f n k = list_any f (numbers_from k (n - k))

-- the first number from k on that passes
abbrev pub first_since : (ℕ → Bool) → ℕ → ℕ → Option ℕ
first_since f n k = find f (numbers_from k (n - k))

any_more : (f : ℕ → Bool) (n k : ℕ) → k < n → any_since f n k ≡ (f k || any_since f n (k + 1))
any_more f n k low =
    let size : n - k ≡ suc (n - (k + 1)) = omega arith in
    let next : suc k ≡ k + 1 = omega arith in
    ap (λ m. list_any f (numbers_from k m)) size ∙ ap (λ j. f k || list_any f (numbers_from j (n - (k + 1)))) next

first_more : (f : ℕ → Bool) (n k : ℕ) → k < n → first_since f n k ≡ cond (f k) (Some k) (first_since f n (k + 1))
first_more f n k low =
    let size : n - k ≡ suc (n - (k + 1)) = omega arith in
    let next : suc k ≡ k + 1 = omega arith in
    ap (λ m. find f (numbers_from k m)) size ∙ ap (λ j. cond (f k) (Some k) (find f (numbers_from j (n - (k + 1))))) next

-- where k does not pass, the search goes on after it
pub any_goes_on : (f : ℕ → Bool) (n k : ℕ) → k < n → f k ≡ false → any_since f n (k + 1) ≡ any_since f n k
any_goes_on f n k low fails = sym (any_more f n k low ∙ ap (λ b. b || any_since f n (k + 1)) fails)

pub first_goes_on : (f : ℕ → Bool) (n k : ℕ) → k < n → f k ≡ false → first_since f n (k + 1) ≡ first_since f n k
first_goes_on f n k low fails = sym (first_more f n k low ∙ ap (λ b. cond b (Some k) (first_since f n (k + 1))) fails)

-- where k passes, the search ends there
pub any_ends : (f : ℕ → Bool) (n k : ℕ) → k < n → f k ≡ true → any_since f n k ≡ true
any_ends f n k low passes = any_more f n k low ∙ ap (λ b. b || any_since f n (k + 1)) passes

pub first_ends : (f : ℕ → Bool) (n k : ℕ) → k < n → f k ≡ true → first_since f n k ≡ Some k
first_ends f n k low passes = first_more f n k low ∙ ap (λ b. cond b (Some k) (first_since f n (k + 1))) passes

-- past the last number the search has found nothing
pub any_past : (f : ℕ → Bool) (n k : ℕ) → n ≤ k → any_since f n k ≡ false
any_past f n k past = let none : n - k ≡ 0 = omega arith in ap (λ m. list_any f (numbers_from k m)) none

pub first_past : (f : ℕ → Bool) (n k : ℕ) → n ≤ k → first_since f n k ≡ None
first_past f n k past = let none : n - k ≡ 0 = omega arith in ap (λ m. find f (numbers_from k m)) none
