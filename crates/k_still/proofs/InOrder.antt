-- Lists that are read, or taken apart, from the first element on.
use Rattle.std.proofs.Common.{◌≡◌, ℕ, suc, ◌+◌, ◌<◌, sym, ap, ◌∙◌, subst, List, [], ◌∷◌, drop, get_or, length, map, slice_get, Some, arith, drop-cons}
use Rattle.std.proofs.lemmas.List.{get_or-map, length-map}
use Rattle.std.proofs.lemmas.Option.{get_or_from_slice_get, slice_get_within}
use Rattle.k_types.specs.Numbers.{numbers_below}
use Rattle.k_types.proofs.Lists.{numbers_length, at_number}
use Rattle.k_still.specs.Opening.{Each}

-- there is nothing in an empty list
pub each_none : {A : Type 0} (P : ℕ → A → Type 0) → Each P []
each_none P k x found = absurd (cc)

-- what is left to be read begins with what is read
pub drop_read : {A : Type 0} (xs : List A) (i : ℕ) (d : A) → i < length xs → drop i xs ≡ get_or xs i d ∷ drop (i + 1) xs
drop_read xs i d inside = drop-cons xs i d inside ∙ ap (λ k. get_or xs i d ∷ drop k xs) (let e : suc i ≡ i + 1 = omega arith in e)

-- a list made of the numbers below n has at each place what is made of its number
pub each_numbered : {A : Type 0} (f : ℕ → A) (xs : List A) (n : ℕ) → xs ≡ map f (numbers_below n) → Each (λ k x. x ≡ f k) xs
each_numbered f xs n is k x found =
    let there = subst (λ ys. slice_get ys k ≡ Some x) is found in
    let inside : k < n = omega (arith, slice_get_within (map f (numbers_below n)) k x there, length-map (numbers_below n) f, numbers_length 0 n) in
    sym (get_or_from_slice_get (map f (numbers_below n)) k x x there) ∙ at_number f 0 n k x inside ∙ ap f (let e : 0 + k ≡ k = omega arith in e)

-- two lists of one length, of which the same is made at each place
pub each_mapped : {A B C : Type 0} (f : A → C) (g : B → C) (xs : List A) (ys : List B) (d : B) → map f xs ≡ map g ys → Each (λ k x. f x ≡ g (get_or ys k d)) xs
each_mapped f g xs ys d is k x found =
    let all : length xs ≡ length ys = sym (length-map xs f) ∙ ap length is ∙ length-map ys g in
    let inside : k < length ys = omega (arith, slice_get_within xs k x found, all) in
    sym (get_or-map f xs k x (f x) (slice_get_within xs k x found) ∙ ap f (get_or_from_slice_get xs k x x found))
    ∙ ap (λ zs. get_or zs k (f x)) is
    ∙ get_or-map g ys k d (f x) inside

-- the first element is taken: it stood in the first place, and each other in the place behind
pub each_first : {A : Type 0} (P : ℕ → A → Type 0) (all xs : List A) (y : A) → all ≡ y ∷ xs → Each P all → P 0 y
each_first P all xs y is each = each 0 y (ap (λ ys. slice_get ys 0) is)

pub each_rest : {A : Type 0} (P : ℕ → A → Type 0) (all xs : List A) (y : A) → all ≡ y ∷ xs → Each P all → Each (λ k x. P (suc k) x) xs
each_rest P all xs y is each k x found = each (suc k) x (ap (λ ys. slice_get ys (suc k)) is ∙ found)
