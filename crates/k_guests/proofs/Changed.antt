-- Lists of which the first members are changed.
use Rattle.std.proofs.Common.{◌≡◌, ℕ, zero, suc, ◌<◌, ◌≤◌, ◌+◌, refl, sym, ap, ap₂, ◌∙◌, subst, List, [], ◌∷◌, ◌++◌, map, length, replicate, set, Some, slice_get, get_or, inl, inr, arith}
use Rattle.std.proofs.lemmas.Bool.{cases_eq}
use Rattle.std.proofs.lemmas.List.{length-map, set-get_or}
use Rattle.std.proofs.lemmas.Option.{slice_get_read, slice_get_within}
use Rattle.k_guests.specs.Growing.{OfEach, OfFirst, changed_first}

module _ {A : Type 0} (f : A → A) where
  pub changed_all : (n : ℕ) (xs : List A) → length xs ≤ n → changed_first f n xs ≡ map f xs
  changed_all zero [] few = refl
  changed_all zero (x ∷ xs) few = absurd (omega (arith, few))
  changed_all (suc n) [] few = refl
  changed_all (suc n) (x ∷ xs) few = ap (λ ys. f x ∷ ys) (changed_all n xs (omega (arith, few)))

  pub changed_count : (n : ℕ) (xs : List A) → length (changed_first f n xs) ≡ length xs
  changed_count zero xs = refl
  changed_count (suc n) [] = refl
  changed_count (suc n) (x ∷ xs) = ap suc (changed_count n xs)

  -- past the first ones all is as it was
  pub changed_rest : (n k : ℕ) (xs : List A) → n ≤ k → slice_get (changed_first f n xs) k ≡ slice_get xs k
  changed_rest zero k xs few = refl
  changed_rest (suc n) k [] few = refl
  changed_rest (suc n) zero (x ∷ xs) few = absurd (omega (arith, few))
  changed_rest (suc n) (suc k) (x ∷ xs) few = changed_rest n k xs (omega (arith, few))

  -- the next one is changed
  pub changed_next : (n : ℕ) (xs : List A) (x : A) → slice_get xs n ≡ Some x → set (changed_first f n xs) n (f x) ≡ changed_first f (suc n) xs
  changed_next zero [] x at = absurd (cc)
  changed_next zero (y ∷ ys) x at = let same : y ≡ x = cc in ap (λ z. f z ∷ ys) (sym same)
  changed_next (suc n) [] x at = absurd (cc)
  changed_next (suc n) (y ∷ ys) x at = ap (λ zs. f y ∷ zs) (changed_next n ys x at)

  -- each of the first ones is a changed one
  pub changed_each : (n k : ℕ) (xs : List A) (y : A) → k < n → slice_get (changed_first f n xs) k ≡ Some y → (x : A) × (slice_get xs k ≡ Some x) × (y ≡ f x)
  changed_each zero k xs y few at = absurd (omega (arith, few))
  changed_each (suc n) k [] y few at = absurd (cc)
  changed_each (suc n) zero (x ∷ xs) y few at = (x, refl, cc)
  changed_each (suc n) (suc k) (x ∷ xs) y few at = changed_each n k xs y (omega (arith, few)) at

  -- where all are changed
  pub mapped_each : (k : ℕ) (xs : List A) (y : A) → slice_get (map f xs) k ≡ Some y → (x : A) × (slice_get xs k ≡ Some x) × (y ≡ f x)
  mapped_each k [] y at = absurd (cc)
  mapped_each zero (x ∷ xs) y at = (x, refl, cc)
  mapped_each (suc k) (x ∷ xs) y at = mapped_each k xs y at

  -- what is changed back is as it was
  pub changed_back : (g : A → A) (n : ℕ) (xs : List A) → OfFirst (λ x. g (f x) ≡ x) n xs → changed_first g n (changed_first f n xs) ≡ xs
  changed_back g zero xs back = refl
  changed_back g (suc n) [] back = refl
  changed_back g (suc n) (x ∷ xs) back = ap₂ (λ y ys. y ∷ ys) (back 0 x (omega arith) refl) (changed_back g n xs (λ k y few at. back (suc k) y (omega (arith, few)) at))

  -- and so where all are changed twice
  pub mapped_twice : (g h : A → A) (xs : List A) → ((x : A) → g (f x) ≡ h x) → map g (map f xs) ≡ map h xs
  mapped_twice g h [] same = refl
  mapped_twice g h (x ∷ xs) same = ap₂ (λ y ys. y ∷ ys) (same x) (mapped_twice g h xs same)

  -- the one that is next, where it is read
  pub next_read : (n : ℕ) (xs ys : List A) (x : A) → ys ≡ changed_first f n xs → n < length xs → x ≡ get_or ys n x → slice_get xs n ≡ Some x
  next_read n xs ys x is below read =
      let count : length ys ≡ length xs = ap length is ∙ changed_count n xs in
      let same : slice_get ys n ≡ slice_get xs n = ap (λ zs. slice_get zs n) is ∙ changed_rest n n xs (omega arith) in
      sym same ∙ slice_get_read ys (length ys) n x refl (omega (arith, count, below)) read

  -- the one that is next, where it is written
  pub next_written : (n : ℕ) (xs ys : List A) (x y : A) → ys ≡ changed_first f n xs → slice_get xs n ≡ Some x → y ≡ f x → set ys n y ≡ changed_first f (n + 1) xs
  next_written n xs ys x y is at changed = ap₂ (λ zs z. set zs n z) is changed ∙ changed_next n xs x at ∙ ap (λ k. changed_first f k xs) one
    where
      one : suc n ≡ n + 1
      one = omega arith

  -- what is so of the changed ones is so of the first
  pub first_changed : (Q : A → Type 0) (n : ℕ) (xs : List A) → OfFirst (λ x. Q (f x)) n xs → OfFirst Q n (changed_first f n xs)
  first_changed Q n xs of k y few at = let e = changed_each n k xs y few at in subst Q (sym e.2) (of k e.0 few e.1)

  -- the same where all are changed
  pub all_changed : (Q : A → Type 0) (xs : List A) → OfEach (λ x. Q (f x)) xs → OfEach Q (map f xs)
  all_changed Q xs of k y at = let e = mapped_each k xs y at in subst Q (sym e.2) (of k e.0 e.1)

-- what is written as it was read changes nothing
pub written_same : {A : Type 0} (n : ℕ) (ys : List A) (x y : A) → x ≡ get_or ys n x → y ≡ x → set ys n y ≡ ys
written_same n ys x y read same = ap (set ys n) (same ∙ read) ∙ set-get_or ys n x

-- what is so of the next one too is so of one more
pub one_more : {A : Type 0} (P : A → Type 0) (n : ℕ) (xs : List A) (x : A) → OfFirst P n xs → slice_get xs n ≡ Some x → P x → OfFirst P (n + 1) xs
one_more P n xs x of at own = λ k z few found. elim (cases_eq k n) [
  | inl here ↦ let same : Some x ≡ Some z = sym at ∙ ap (slice_get xs) (sym here) ∙ found in let is : x ≡ z = cc in subst P is own
  | inr there ↦ of k z (omega (arith, few, there)) found
]

-- what is so of as many as there are is so of each
pub of_all : {A : Type 0} (P : A → Type 0) (n : ℕ) (xs : List A) → length xs ≤ n → OfFirst P n xs → OfEach P xs
of_all P n xs all of = λ k x at. let few = slice_get_within xs k x at in of k x (omega (arith, few, all)) at

-- what is so of each is so of the first ones
pub of_some : {A : Type 0} (P : A → Type 0) (n : ℕ) (xs : List A) → OfEach P xs → OfFirst P n xs
of_some P n xs of = λ k x few at. of k x at

module _ {A : Type 0} (P : A → Type 0) where
  -- an item of the front is one of the list
  front_at : (xs ys : List A) (k : ℕ) (x : A) → slice_get xs k ≡ Some x → slice_get (xs ++ ys) k ≡ Some x
  front_at [] ys k x at = absurd (cc)
  front_at (z ∷ zs) ys zero x at = at
  front_at (z ∷ zs) ys (suc k) x at = front_at zs ys k x at

  last_at : (xs : List A) (x : A) → slice_get (xs ++ x ∷ []) (length xs) ≡ Some x
  last_at [] x = refl
  last_at (z ∷ zs) x = last_at zs x

  -- what is so of each is so of the last, and of those before it
  pub of_last : (xs ys : List A) (x : A) → xs ≡ ys ++ x ∷ [] → OfEach P xs → P x
  of_last xs ys x is of = of (length ys) x (ap (λ zs. slice_get zs (length ys)) is ∙ last_at ys x)

  pub of_before : (xs ys : List A) (x : A) → xs ≡ ys ++ x ∷ [] → OfEach P xs → OfEach P ys
  of_before xs ys x is of k z at = of k z (ap (λ zs. slice_get zs k) is ∙ front_at ys (x ∷ []) k z at)

-- a list of one item so many times has it alone
pub of_same : {A : Type 0} (n : ℕ) (x : A) → OfEach (λ y. y ≡ x) (replicate n x)
of_same zero x k y at = absurd (cc)
of_same (suc n) x zero y at = let same : x ≡ y = cc in sym same
of_same (suc n) x (suc k) y at = of_same n x k y at

-- all are changed back
pub mapped_back : {A : Type 0} (f g : A → A) (n : ℕ) (xs : List A) → length xs ≤ n → OfEach (λ x. g (f x) ≡ x) xs → changed_first g n (map f xs) ≡ xs
mapped_back f g n xs all back =
    ap (changed_first g n) (sym (changed_all f n xs all)) ∙ changed_back f g n xs (of_some (λ x. g (f x) ≡ x) n xs back)

pub twice_back : {A : Type 0} (f g : A → A) (xs : List A) → OfEach (λ x. g (f x) ≡ x) xs → map g (map f xs) ≡ xs
twice_back f g xs back =
    let few : length (map f xs) ≤ length xs = let same = length-map xs f in omega (arith, same) in
    sym (changed_all g (length xs) (map f xs) few) ∙ mapped_back f g (length xs) xs (omega arith) back

-- nothing is of no list
pub of_none : {A : Type 0} (P : A → Type 0) → OfEach P []
of_none P k x at = absurd (cc)
