-- What is found in a list after a write.
use Rattle.std.proofs.Common.{◌≡◌, ℕ, zero, suc, List, [], ◌∷◌, set, Some, slice_get, refl, ap, inl, inr, ◌⊎◌}

-- what is found after a write was there, or is what was written
pub get_set_cases : {A : Type 0} (xs : List A) (k j : ℕ) (x y : A) → slice_get (set xs k x) j ≡ Some y → ((j ≡ k) × (x ≡ y)) ⊎ (slice_get xs j ≡ Some y)
get_set_cases [] k j x y e = inr e
get_set_cases (z ∷ xs) zero zero x y e = inl (refl, cc)
get_set_cases (z ∷ xs) zero (suc j) x y e = inr e
get_set_cases (z ∷ xs) (suc k) zero x y e = inr e
get_set_cases (z ∷ xs) (suc k) (suc j) x y e = elim (get_set_cases xs k j x y e) [ inl here ↦ inl (ap suc here.0, here.1) | inr there ↦ inr there ]
