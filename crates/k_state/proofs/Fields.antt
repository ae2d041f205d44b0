-- The first fields of a new object.
use Rattle.std.proofs.Common.{◌≡◌, ℕ, zero, suc, ◌+◌, refl, ap, ◌∙◌, List, [], ◌∷◌, ◌++◌, map, take, Some, None, arith, slice_get}

pub fields_next : {A B : Type 0} (f : A → B) (xs : List A) (i : ℕ) (x : A) → slice_get xs i ≡ Some x → map f (take (i + 1) xs) ≡ map f (take i xs) ++ f x ∷ []
fields_next f [] i x found = grind arith
fields_next f (y ∷ ys) zero x found = grind arith
fields_next f (y ∷ ys) (suc i) x found =
    let one : suc i + 1 ≡ suc (i + 1) = omega arith in
    ap (λ n. map f (take n (y ∷ ys))) one ∙ ap (λ zs. f y ∷ zs) (fields_next f ys i x found)

pub fields_end : {A B : Type 0} (f : A → B) (xs : List A) (i : ℕ) → slice_get xs i ≡ None → map f (take i xs) ≡ map f xs
fields_end f [] zero found = refl
fields_end f [] (suc i) found = refl
fields_end f (y ∷ ys) zero found = grind arith
fields_end f (y ∷ ys) (suc i) found = ap (λ zs. f y ∷ zs) (fields_end f ys i found)
