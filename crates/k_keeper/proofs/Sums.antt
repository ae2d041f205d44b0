-- Sums over a list of which an item is written.
use Rattle.std.proofs.Common.{◌≡◌, ◌≤◌, ◌+◌, ℕ, zero, suc, refl, sym, ap, ◌∙◌, subst, List, [], ◌∷◌, length, get_or, set, Some, slice_get, arith, zero-le}
use Rattle.std.proofs.lemmas.Option.{slice_get-get_or, slice_get_within}
use Rattle.k_types.specs.Totals.{total}
use Rattle.k_types.proofs.Sums.{total_set}
use Rattle.k_types.proofs.Lists.{same_value}

-- an item that is written over another
pub total_at : {A : Type 0} (f : A → ℕ) (xs : List A) (n : ℕ) (x y : A) → slice_get xs n ≡ Some x → total f (set xs n y) + f x ≡ total f xs + f y
total_at f xs n x y at =
    let inside = slice_get_within xs n x at in
    let read : Some (get_or xs n x) ≡ Some x = sym (slice_get-get_or xs n x inside) ∙ at in
    let same : get_or xs n x ≡ x = same_value read in
    subst (λ z. total f (set xs n y) + f z ≡ total f xs + f y) same (total_set f xs n y x inside)

-- one item is no more than all
pub one_of : {A : Type 0} (f : A → ℕ) (xs : List A) (n : ℕ) (x : A) → slice_get xs n ≡ Some x → f x ≤ total f xs
one_of f [] n x at = absurd (cc at)
one_of f (y ∷ ys) zero x at = let same : f y ≡ f x = ap f (same_value at) in omega (arith, same)
one_of f (y ∷ ys) (suc n) x at = omega (arith, one_of f ys n x at)

-- items of at most one each
pub total_low : {A : Type 0} (f : A → ℕ) (xs : List A) → ((k : ℕ) (x : A) → slice_get xs k ≡ Some x → f x ≤ 1) → total f xs ≤ length xs
total_low f [] low = zero-le
total_low f (x ∷ xs) low = omega (arith, low zero x refl, total_low f xs (λ k y at. low (suc k) y at))

-- what all items are is what they are once another one is written
pub each_set : {A : Type 0} (P : A → Type 0) (xs : List A) (i : ℕ) (w : A) → ((k : ℕ) (x : A) → slice_get xs k ≡ Some x → P x) → P w → (k : ℕ) (x : A) → slice_get (set xs i w) k ≡ Some x → P x
each_set P [] i w all now k x there = all k x there
each_set P (y ∷ ys) zero w all now zero x there = subst P (same_value there) now
each_set P (y ∷ ys) zero w all now (suc k) x there = all (suc k) x there
each_set P (y ∷ ys) (suc i) w all now zero x there = all zero x there
each_set P (y ∷ ys) (suc i) w all now (suc k) x there = each_set P ys i w (λ j z at. all (suc j) z at) now k x there
