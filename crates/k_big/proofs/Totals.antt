-- Sums so far.
use Rattle.std.proofs.Common.{◌≡◌, ◌∙◌, ℕ, ◌+◌, ap, List, [], ◌∷◌, ◌++◌, take, Some, slice_get}
use Rattle.std.proofs.lemmas.List.{take_more}
use Rattle.std.proofs.lemmas.Option.{slice_get_within, get_or_from_slice_get}
use Rattle.k_types.specs.Totals.{total}
use Rattle.k_types.proofs.Sums.{total_push}

-- one element more
pub total_so_far : {A : Type 0} (f : A → ℕ) (xs : List A) (i : ℕ) (v : A) → slice_get xs i ≡ Some v → total f (take (i + 1) xs) ≡ total f (take i xs) + f v
total_so_far f xs i v at =
    ap (total f) (take_more xs i v (slice_get_within xs i v at) ∙ ap (λ w. take i xs ++ w ∷ []) (get_or_from_slice_get xs i v v at))
    ∙ total_push f (take i xs) v
