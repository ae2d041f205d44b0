-- Sums over lists of which places are named.
use Rattle.std.proofs.Common.{◌≡◌, ◌≢◌, ℕ, zero, suc, ◌+◌, ◌≤◌, List, [], ◌∷◌, set, refl, sym, ap, arith}
use mathlib.Core.Option.{some, some-injective, some-ne-none}
use lib.ListN.{get_elem?}
use Rattle.k_types.specs.Totals.{total}

module _ {A : Type 0} (f : A → ℕ) where
  -- an element that is set
  pub total_set_there : (xs : List A) (i : ℕ) (v w : A) → get_elem? xs i ≡ some v → total f (set xs i w) + f v ≡ total f xs + f w
  total_set_there [] i v w e = absurd (some-ne-none v (sym e))
  total_set_there (x ∷ xs) zero v w e = let p : f x ≡ f v = ap f (some-injective x v e) in omega arith
  total_set_there (x ∷ xs) (suc i) v w e = let p = total_set_there xs i v w e in omega arith

  -- one element, and two
  pub total_one : (xs : List A) (i : ℕ) (v : A) → get_elem? xs i ≡ some v → f v ≤ total f xs
  total_one [] i v e = absurd (some-ne-none v (sym e))
  total_one (x ∷ xs) zero v e = let p : f x ≡ f v = ap f (some-injective x v e) in omega arith
  total_one (x ∷ xs) (suc i) v e = let p = total_one xs i v e in omega arith

  pub total_two : (xs : List A) (i j : ℕ) (v w : A) → get_elem? xs i ≡ some v → get_elem? xs j ≡ some w → j ≢ i → f v + f w ≤ total f xs
  total_two [] i j v w e d n = absurd (some-ne-none v (sym e))
  total_two (x ∷ xs) zero zero v w e d n = absurd (n refl)
  total_two (x ∷ xs) zero (suc j) v w e d n = let p : f x ≡ f v = ap f (some-injective x v e) in let q = total_one xs j w d in omega arith
  total_two (x ∷ xs) (suc i) zero v w e d n = let p : f x ≡ f w = ap f (some-injective x w d) in let q = total_one xs i v e in omega arith
  total_two (x ∷ xs) (suc i) (suc j) v w e d n = let p = total_two xs i j v w e d (λ h. n (ap suc h)) in omega arith

-- a list of one element has no other place
pub only_one : {A : Type 0} (v w : A) (id : ℕ) → get_elem? (v ∷ []) id ≡ some w → (id ≡ 0) × (v ≡ w)
only_one v w zero e = (refl, some-injective v w e)
only_one v w (suc id) e = absurd (some-ne-none w (sym e))
