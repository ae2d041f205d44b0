-- Two places of a list that is split between them.
use Rattle.std.proofs.Common.{◌≡◌, ◌<◌, ℕ, zero, suc, refl, sym, ap, ap₂, ◌∙◌, List, [], ◌∷◌, ◌++◌, length, get_or, set, Some, slice_get, arith}
use Rattle.std.proofs.lemmas.List.{set_comm}

get_front : {A : Type 0} (front back : List A) (i : ℕ) (x : A) → i < length front → x ≡ get_or front i x → slice_get (front ++ back) i ≡ Some x
get_front [] back i x inside read = absurd (omega (arith, inside))
get_front (y ∷ ys) back zero x inside read = ap (λ z. Some z) (sym read)
get_front (y ∷ ys) back (suc i) x inside read = get_front ys back i x (omega (arith, inside)) read

get_back : {A : Type 0} (front back : List A) (x : A) → 0 < length back → x ≡ get_or back 0 x → slice_get (front ++ back) (length front) ≡ Some x
get_back [] [] x inside read = absurd (omega (arith, inside))
get_back [] (y ∷ ys) x inside read = ap (λ z. Some z) (sym read)
get_back (y ∷ ys) back x inside read = get_back ys back x inside read

set_back : {A : Type 0} (front back : List A) (y : A) → front ++ set back 0 y ≡ set (front ++ back) (length front) y
set_back [] back y = refl
set_back (z ∷ zs) back y = ap (λ ws. z ∷ ws) (set_back zs back y)

set_both : {A : Type 0} (front back : List A) (i : ℕ) (x y : A) → i < length front → set front i x ++ set back 0 y ≡ set (set (front ++ back) i x) (length front) y
set_both [] back i x y inside = absurd (omega (arith, inside))
set_both (z ∷ zs) back zero x y inside = ap (λ ws. x ∷ ws) (set_back zs back y)
set_both (z ∷ zs) back (suc i) x y inside = ap (λ ws. z ∷ ws) (set_both zs back i x y (omega (arith, inside)))

module _ {A : Type 0} (xs front back : List A) (n : ℕ) (parts : xs ≡ front ++ back) (size : length front ≡ n) where
  -- an item before the split
  pub at_front : (i : ℕ) (x : A) → i < n → x ≡ get_or front i x → slice_get xs i ≡ Some x
  at_front i x before read = ap (λ (ys : List A). slice_get ys i) parts ∙ get_front front back i x (omega (arith, before, size)) read

  -- the first one behind it
  pub at_back : (x : A) → 0 < length back → x ≡ get_or back 0 x → slice_get xs n ≡ Some x
  at_back x some read = ap₂ (λ (ys : List A) m. slice_get ys m) parts (sym size) ∙ get_back front back x some read

  -- both are written
  pub set_parts : (i : ℕ) (x y : A) → i < n → set front i x ++ set back 0 y ≡ set (set xs i x) n y
  set_parts i x y before =
      set_both front back i x y (omega (arith, before, size)) ∙ ap₂ (λ (ys : List A) m. set (set ys i x) m y) (sym parts) size

  -- the same, written in the other order
  pub set_parts_back : (i : ℕ) (x y : A) → i < n → set front i x ++ set back 0 y ≡ set (set xs n y) i x
  set_parts_back i x y before = set_parts i x y before ∙ set_comm xs i n x y (λ same. omega (arith, before, same))
