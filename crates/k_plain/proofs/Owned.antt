-- How many of a list are kept.
use Rattle.std.proofs.Common.{◌≡◌, ℕ, ◌+◌, ◌<◌, ◌≤◌, cond, Bool, true, false, ap, ◌∙◌, List, ◌∷◌, length, filter, get_or, drop, arith}
use Rattle.std.proofs.lemmas.List.{drop_more, at_drop_all}

-- what one element adds
kept_first : {A : Type 0} (g : A → Bool) (x : A) (xs : List A) → length (filter g (x ∷ xs)) ≡ cond (g x) 1 0 + length (filter g xs)
kept_first g x xs =
    elim (g x) as (λ b. length (cond b (x ∷ filter g xs) (filter g xs)) ≡ cond b 1 0 + length (filter g xs)) [
      | true ↦ omega arith
      | false ↦ omega arith
    ]

-- how many are kept of what is left of a list
pub kept_left : {A : Type 0} (g : A → Bool) (xs : List A) (i : ℕ) (d : A) → i < length xs →
    length (filter g (drop i xs)) ≡ cond (g (get_or xs i d)) 1 0 + length (filter g (drop (i + 1) xs))
kept_left g xs i d inside = ap (λ ys. length (filter g ys)) (drop_more xs i d inside) ∙ kept_first g (get_or xs i d) (drop (i + 1) xs)

pub kept_over : {A : Type 0} (g : A → Bool) (xs : List A) (i : ℕ) → length xs ≤ i → length (filter g (drop i xs)) ≡ 0
kept_over g xs i past = at_drop_all (λ ys. length (filter g ys)) xs i past
