-- Sums over the first numbers.
use Rattle.std.proofs.Common.{◌≡◌, ℕ, ◌+◌, ◌-◌, ap, ◌∙◌, arith, add-one, zero, suc, ◌≤◌, ◌<◌}
use Rattle.k_types.specs.Numbers.{numbers_below, numbers_from}
use Rattle.k_types.specs.Totals.{total}
use Rattle.k_types.proofs.Lists.{numbers_push}
use Rattle.k_types.proofs.Sums.{total_push}

pub total_more : (f : ℕ → ℕ) (n : ℕ) → total f (numbers_below (n + 1)) ≡ total f (numbers_below n) + f n
total_more f n =
    let same : 0 + n ≡ n = omega arith in
    ap (λ k. total f (numbers_below k)) (add-one n) ∙ ap (total f) (numbers_push 0 n) ∙ total_push f (numbers_below n) (0 + n) ∙ ap (λ k. total f (numbers_below n) + f k) same

pub total_rises : (f : ℕ → ℕ) (n d : ℕ) → total f (numbers_below n) ≤ total f (numbers_below (n + d))
total_rises f n zero = let same : n + 0 ≡ n = omega arith in let e = ap (λ k. total f (numbers_below k)) same in omega (arith, e)
total_rises f n (suc d) =
    let next : n + suc d ≡ (n + d) + 1 = omega arith in
    let e = ap (λ k. total f (numbers_below k)) next ∙ total_more f (n + d) in
    let less = total_rises f n d in
    omega (arith, e, less)

pub first_total : (f : ℕ → ℕ) (n m : ℕ) → n ≤ m → total f (numbers_below n) ≤ total f (numbers_below m)
first_total f n m within =
    let same : n + (m - n) ≡ m = omega (arith, within) in
    let e = ap (λ k. total f (numbers_below k)) same in
    let less = total_rises f n (m - n) in
    omega (arith, e, less)

pub total_from_low : (f : ℕ → ℕ) (first k n : ℕ) → k < n → total f (numbers_from first k) + f (first + k) ≤ total f (numbers_from first n)
total_from_low f first k zero inside = absurd (omega arith)
total_from_low f first zero (suc n) inside = let e : f (first + 0) ≡ f first = ap f (let z : first + 0 ≡ first = omega arith in z) in omega (arith, e)
total_from_low f first (suc k) (suc n) inside =
    let e : f (first + suc k) ≡ f (suc first + k) = ap f (let z : first + suc k ≡ suc first + k = omega arith in z) in
    omega (arith, e, total_from_low f (suc first) k n (omega (arith, inside)))

pub total_within : (f : ℕ → ℕ) (k n : ℕ) → k < n → total f (numbers_below k) + f k ≤ total f (numbers_below n)
total_within f k n inside = let e : f (0 + k) ≡ f k = ap f (let z : 0 + k ≡ k = omega arith in z) in omega (arith, e, total_from_low f 0 k n inside)
