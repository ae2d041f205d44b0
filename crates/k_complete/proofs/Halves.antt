-- Two places of a list that was cut at the higher one.
use Rattle.std.proofs.Common.{◌≡◌, ◌<◌, ◌++◌, ℕ, zero, suc, refl, ap, List, [], ◌∷◌, length, set, get_or, Some, slice_get, arith}

-- what the front holds in a place the whole holds there
pub front_read : {A : Type 0} (f b : List A) (k : ℕ) (x y : A) → slice_get (f ++ b) k ≡ Some x → k < length f → get_or f k y ≡ x
front_read [] b k x y found inside = absurd (omega arith)
front_read (z ∷ f) b zero x y found inside = cc
front_read (z ∷ f) b (suc k) x y found inside = front_read f b k x y found (omega arith)

-- and the first of the back is what the whole holds at the cut
pub back_read : {A : Type 0} (f b : List A) (k : ℕ) (x y : A) → length f ≡ k → slice_get (f ++ b) k ≡ Some x → get_or b 0 y ≡ x
back_read [] [] zero x y same found = absurd cc
back_read [] [] (suc k) x y same found = absurd (omega (arith, same))
back_read [] (z ∷ b) zero x y same found = cc
back_read [] (z ∷ b) (suc k) x y same found = absurd (omega (arith, same))
back_read (z ∷ f) b zero x y same found = absurd (omega (arith, same))
back_read (z ∷ f) b (suc k) x y same found = back_read f b k x y (omega (arith, same)) found

set_back : {A : Type 0} (f b : List A) (k : ℕ) (u : A) → length f ≡ k → f ++ set b 0 u ≡ set (f ++ b) k u
set_back [] b zero u same = refl
set_back [] b (suc k) u same = absurd (omega (arith, same))
set_back (z ∷ f) b zero u same = absurd (omega (arith, same))
set_back (z ∷ f) b (suc k) u same = ap (λ ys. z ∷ ys) (set_back f b k u (omega (arith, same)))

-- a place of the front is written, and then the cut
pub set_low : {A : Type 0} (f b : List A) (i k : ℕ) (q u : A) → length f ≡ k → i < k → set f i q ++ set b 0 u ≡ set (set (f ++ b) i q) k u
set_low [] b i k q u same inside = absurd (omega (arith, same, inside))
set_low (z ∷ f) b i zero q u same inside = absurd (omega (arith, same, inside))
set_low (z ∷ f) b zero (suc k) q u same inside = ap (λ ys. q ∷ ys) (set_back f b k u (omega (arith, same)))
set_low (z ∷ f) b (suc i) (suc k) q u same inside = ap (λ ys. z ∷ ys) (set_low f b i k q u (omega (arith, same)) (omega (arith, inside)))

-- or the other way round
pub set_high : {A : Type 0} (f b : List A) (i k : ℕ) (q u : A) → length f ≡ k → i < k → set f i u ++ set b 0 q ≡ set (set (f ++ b) k q) i u
set_high [] b i k q u same inside = absurd (omega (arith, same, inside))
set_high (z ∷ f) b i zero q u same inside = absurd (omega (arith, same, inside))
set_high (z ∷ f) b zero (suc k) q u same inside = ap (λ ys. u ∷ ys) (set_back f b k q (omega (arith, same)))
set_high (z ∷ f) b (suc i) (suc k) q u same inside = ap (λ ys. z ∷ ys) (set_high f b i k q u (omega (arith, same)) (omega (arith, inside)))
