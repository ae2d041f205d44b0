-- Places that fill up.
use Rattle.std.proofs.Common.{◌≡◌, ℕ, zero, suc, ◌+◌, ◌<◌, ◌≤◌, List, [], ◌∷◌, ◌++◌, length, map, set, get_or, Some, None, Option, slice_get, replicate, refl, sym, ap, ◌∙◌, subst, arith}
use Rattle.std.proofs.lemmas.List.{replicate-append-replicate}
use Rattle.std.proofs.lemmas.Option.{slice_get_read}
use Rattle.k_locks.specs.Places.{filled, one_if_some}

-- a place that was free is taken
pub filled_set : {A : Type 0} (xs : List (Option A)) (k : ℕ) (x : Option A) (v : A) → slice_get xs k ≡ Some None → filled (set (set xs k x) k (Some v)) ≡ filled xs + 1
filled_set [] k x v e = absurd (cc)
filled_set {A = A} (y ∷ xs) zero x v e = let is : y ≡ None = cc in let z : one_if_some y ≡ 0 = ap (one_if_some {A = A}) is in omega (arith, z)
filled_set (y ∷ xs) (suc k) x v e = omega (arith, filled_set xs k x v e)

pub filled_low : {A : Type 0} (xs : List (Option A)) → filled xs ≤ length xs
filled_low [] = omega arith
filled_low (Some v ∷ xs) = omega (arith, filled_low xs)
filled_low (None ∷ xs) = omega (arith, filled_low xs)

-- where all are taken each is
pub filled_all : {A : Type 0} (xs : List (Option A)) (k : ℕ) → filled xs ≡ length xs → k < length xs → (v : A) × (slice_get xs k ≡ Some (Some v))
filled_all [] k e inside = absurd (omega (arith, inside))
filled_all (Some v ∷ xs) zero e inside = (v, refl)
filled_all (None ∷ xs) zero e inside = absurd (omega (arith, e, filled_low xs))
filled_all (Some v ∷ xs) (suc k) e inside = filled_all xs k (omega (arith, e)) (omega (arith, inside))
filled_all (None ∷ xs) (suc k) e inside = absurd (omega (arith, e, filled_low xs))

pub filled_none : (A : Type 0) (n : ℕ) → filled {A = A} (replicate n None) ≡ 0
filled_none A zero = refl
filled_none A (suc n) = omega (arith, filled_none A n)

pub none_there : {A : Type 0} (n k : ℕ) (v : A) → slice_get (replicate n None) k ≡ Some (Some v) → ⊥
none_there zero k v e = cc
none_there (suc n) zero v e = cc
none_there (suc n) (suc k) v e = none_there n k v e

-- what is found among elements that are all there
pub get_mapped_some : {A : Type 0} (xs : List A) (places : List (Option A)) (k : ℕ) (x : A) → map Some xs ≡ places → slice_get xs k ≡ Some x → slice_get places k ≡ Some (Some x)
get_mapped_some xs places k x is at = subst (λ ps. slice_get ps k ≡ Some (Some x)) is (go xs k at)
  where
    go : {A : Type 0} {x : A} (xs : List A) (k : ℕ) → slice_get xs k ≡ Some x → slice_get (map Some xs) k ≡ Some (Some x)
    go [] k at = absurd (cc)
    go (y ∷ xs) zero at = ap Some at
    go (y ∷ xs) (suc k) at = go xs k at

-- where all places are taken none that is read is free
pub none_free : {A : Type 0} (xs : List (Option A)) (k : ℕ) (x : Option A) → filled xs ≡ length xs → k < length xs → x ≡ get_or xs k x → x ≡ None → ⊥
none_free xs k x all inside read none =
    let there = filled_all xs k all inside in
    let same : Some x ≡ Some (Some there.0) = sym (slice_get_read xs (length xs) k x refl inside read) ∙ there.1 in
    cc

-- what is made of a list with one element more
pub mapped_push : {A B : Type 0} (f : A → B) (xs : List A) (x : A) → map f (xs ++ x ∷ []) ≡ map f xs ++ f x ∷ []
mapped_push f [] x = refl
mapped_push f (y ∷ xs) x = ap (λ ys. f y ∷ ys) (mapped_push f xs x)

pub mapped_all : {A : Type 0} (xs : List A) → map (λ x. x) xs ≡ xs
mapped_all [] = refl
mapped_all (y ∷ xs) = ap (λ ys. y ∷ ys) (mapped_all xs)

-- one free place more
pub one_more_free : {A : Type 0} (n : ℕ) (xs ys : List (Option A)) → xs ≡ replicate n None → ys ≡ xs ++ None ∷ [] → ys ≡ replicate (n + 1) None
one_more_free n xs ys free pushed = pushed ∙ ap (λ (zs : List (Option _)). zs ++ None ∷ []) free ∙ replicate-append-replicate n 1 None
