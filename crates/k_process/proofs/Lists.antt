-- Lemmas on lists, options and results that several crates above cite.
use Rattle.std.proofs.Common.{◌≡◌, ◌⊎◌, ℕ, zero, suc, cond, refl, sym, ap, ◌∙◌, subst, inl, inr, Bool, true, false, List, [], ◌∷◌, ◌++◌, find, length, slice_get, Option, Some, None, Result, Ok, Err}
use Rattle.std.specs.Prelude.{IfOk}

-- what follows from what holds of a success holds of it
pub ok_weaker : {A E : Type 0} (P Q : A → Type 0) → ((a : A) → P a → Q a) → (r : Result A E) → IfOk r P → IfOk r Q
ok_weaker P Q f (Ok a) h = f a h
ok_weaker P Q f (Err e) h = tt

pub nothing_is_something : {A : Type 0} (o : Option A) (x : A) → o ≡ None → o ≡ Some x → ⊥
nothing_is_something o x none some = cc

-- what is found in a list with one element more
pub get_snoc : {A : Type 0} (xs : List A) (y : A) (k : ℕ) (x : A) → slice_get (xs ++ y ∷ []) k ≡ Some x → (slice_get xs k ≡ Some x) ⊎ ((k ≡ length xs) × (y ≡ x))
get_snoc [] y zero x e = inr (refl, cc)
get_snoc [] y (suc k) x e = absurd (cc)
get_snoc (z ∷ xs) y zero x e = inl e
get_snoc (z ∷ xs) y (suc k) x e = elim (get_snoc xs y k x e) [ inl there ↦ inl there | inr here ↦ inr (ap suc here.0, here.1) ]

-- what holds of each element at its place holds with one element more
pub each_pushed : {A : Type 0} (P : ℕ → A → Type 0) (xs : List A) (y : A) → ((k : ℕ) (x : A) → slice_get xs k ≡ Some x → P k x) → P (length xs) y →
    (k : ℕ) (x : A) → slice_get (xs ++ y ∷ []) k ≡ Some x → P k x
each_pushed P xs y each one k x found = elim (get_snoc xs y k x found) [
  | inl there ↦ each k x there
  | inr here ↦ subst (P k) here.1 (subst (λ n. P n y) (sym here.0) one)
]

-- what is found passes the test
pub found_passes : {A : Type 0} (p : A → Bool) (xs : List A) (x : A) → find p xs ≡ Some x → p x ≡ true
found_passes p [] x is = absurd cc
found_passes p (y ∷ xs) x is = go (λ rest. found_passes p xs x rest) (p y) refl is
  where
    go : (find p xs ≡ Some x → p x ≡ true) → (b : Bool) → p y ≡ b → cond b (Some y) (find p xs) ≡ Some x → p x ≡ true
    go next true passes found = let same : y ≡ x = cc in ap p (sym same) ∙ passes
    go next false fails found = next found
