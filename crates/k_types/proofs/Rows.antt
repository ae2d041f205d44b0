-- A table of rows, kept as vectors.
use Rattle.std.proofs.Common.{◌≡◌, ℕ, ◌<◌, List, [], length, map, get_or, ap, sym, ◌∙◌}
use Rattle.std.proofs.lemmas.List.{get_or-map}

-- the row at a place has what the place has that the table shows
pub row-at : {X Y : Type 0} (f : X → List Y) (xs : List X) (i : ℕ) (x : X) → i < length xs → x ≡ get_or xs i x → get_or (map f xs) i [] ≡ f x
row-at f xs i x lt e = get_or-map f xs i x [] lt ∙ ap f (sym e)
