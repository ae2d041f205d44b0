-- A closure of as many folds as there are objects is closed.
use Rattle.std.proofs.Common.{◌≡◌, ℕ, zero, suc, ◌<◌, ◌≤◌, ◌⊎◌, ◌&&◌, ◌||◌, Bool, true, refl, sym, ap, ◌∙◌, inl, inr, List, [], ◌∷◌, length, filter, arith, zero-le}
use Rattle.std.specs.List.{list_any, AllByRecursion}
use Rattle.std.proofs.lemmas.Bool.{and_parts, and_from, or_left, or_right}
use Rattle.k_types.specs.declared.names.Name.{Name}
use Rattle.k_types.specs.State.{Object, has, refers, refers_in}
use Rattle.k_types.specs.Reach.{next_fold, closure}
use Rattle.k_types.proofs.NameTests.{name_eq_refl}
use Rattle.k_types.proofs.Objects.{has-kept, refers_in-kept, referred}
use Rattle.k_types.proofs.Lists.{length-kept}

kept_or_more_step : {A : Type 0} (p q : A → Bool) (x : A) (xs : List A) → (p x ≡ true → q x ≡ true) →
    (filter p xs ≡ filter q xs) ⊎ (length (filter p xs) < length (filter q xs)) →
    (filter p (x ∷ xs) ≡ filter q (x ∷ xs)) ⊎ (length (filter p (x ∷ xs)) < length (filter q (x ∷ xs)))
kept_or_more_step p q x xs more ih = grind (arith, ih, more)

-- a test that passes more either keeps the same, or keeps more
pub kept_or_more : {A : Type 0} (p q : A → Bool) (xs : List A) → AllByRecursion (λ x. p x ≡ true → q x ≡ true) xs →
    (filter p xs ≡ filter q xs) ⊎ (length (filter p xs) < length (filter q xs))
kept_or_more p q [] all = inl refl
kept_or_more p q (x ∷ xs) all = kept_or_more_step p q x xs all.0 (kept_or_more p q xs all.1)

all_weaker : {A : Type 0} (P Q : A → Type 0) → ((x : A) → P x → Q x) → (xs : List A) → AllByRecursion P xs → AllByRecursion Q xs
all_weaker P Q weaker [] all = tt
all_weaker P Q weaker (x ∷ xs) all = (weaker x all.0, all_weaker P Q weaker xs all.1)

-- each object's name is there
pub all_there : (xs : List Object) → AllByRecursion (λ o. has xs o.name ≡ true) xs
all_there [] = tt
all_there (x ∷ xs) = (
  or_left _ _ (name_eq_refl x.name),
  all_weaker (λ o. has xs o.name ≡ true) (λ o. has (x ∷ xs) o.name ≡ true) (λ o t. or_right _ _ t) xs (all_there xs),
)

module _ (pool : List Object) (start : Name → Bool) where
  -- the set after so many folds
  unfoldable pub set : ℕ → List Object
  unfolding closure
  set k = closure k pool (filter (λ o. start o.name) pool)

  -- the test that keeps it
  unfoldable pub in_set : ℕ → Name → Bool
  in_set zero n = start n
  in_set (suc k) n = has (set k) n || list_any (λ x. refers x n) (set k)

  pub set_is : (k : ℕ) → set k ≡ filter (λ o. in_set k o.name) pool
  unfolding set in_set closure
  set_is zero = refl
  set_is (suc k) = refl

  pub set_has : (k : ℕ) (n : Name) → has (set k) n ≡ (has pool n && in_set k n)
  set_has k n = ap (λ objects. has objects n) (set_is k) ∙ has-kept (in_set k) pool n

  pub set_refers : (k : ℕ) (a b : Name) → refers_in (set k) a b ≡ (refers_in pool a b && in_set k a)
  set_refers k a b = ap (λ objects. refers_in objects a b) (set_is k) ∙ refers_in-kept (in_set k) pool a b

  pub in_set_more : (k : ℕ) (o : Object) → has pool o.name ≡ true → in_set k o.name ≡ true → in_set (suc k) o.name ≡ true
  unfolding in_set
  in_set_more k o there t = or_left _ _ (set_has k o.name ∙ and_from _ _ there t)

  set_grows : (k : ℕ) → (set k ≡ set (suc k)) ⊎ (length (set k) < length (set (suc k)))
  set_grows k =
      rw (set_is k, set_is (suc k))
      (kept_or_more (λ o. in_set k o.name) (λ o. in_set (suc k) o.name) pool (all_weaker _ _ (in_set_more k) pool (all_there pool)))

  set_next : (k : ℕ) → set (suc k) ≡ next_fold pool (set k)
  unfolding set closure
  set_next k = refl

  set_stops : (k : ℕ) → (next_fold pool (set k) ≡ set k) ⊎ (k ≤ length (set k))
  set_stops zero = inr zero-le
  set_stops (suc k) =
      elim (set_grows k) [
        | inl e ↦ inl (ap (next_fold pool) (sym e) ∙ sym (set_next k))
        | inr more ↦
            elim (set_stops k) [
              | inl e ↦ inl (ap (next_fold pool) (set_next k ∙ e) ∙ sym (set_next k))
              | inr enough ↦ inr (omega arith)
            ]
      ]

  set_short : (k : ℕ) → length (set k) ≤ length pool
  set_short k = rw (set_is k) (length-kept _ pool)

  pub set_closed : (k : ℕ) → length pool ≤ k → next_fold pool (set k) ≡ set k
  set_closed k enough =
      elim (set_stops k) [
        | inl e ↦ e
        | inr long ↦
            elim (set_grows k) [
              | inl e ↦ sym (set_next k) ∙ sym e
              | inr more ↦ absurd (omega (arith, set_short (suc k)))
            ]
      ]

  -- what the closed set refers to in the pool is in the set
  pub closed_refers : (k : ℕ) (a b : Name) → length pool ≤ k → has (set k) a ≡ true → refers_in pool a b ≡ true → has pool b ≡ true → has (set k) b ≡ true
  closed_refers k a b enough ha rab hb =
      let kept = (and_parts (has pool a) (in_set k a) (sym (set_has k a) ∙ ha)).1 in
      let some = referred (set k) a b (set_refers k a b ∙ and_from _ _ rab kept) in
      ap (λ objects. has objects b) (sym (set_closed k enough))
      ∙ has-kept (λ n. has (set k) n || list_any (λ x. refers x n) (set k)) pool b
      ∙ and_from _ _ hb (or_right _ _ some)

  pub start_in : (n : Name) → has pool n ≡ true → start n ≡ true → (k : ℕ) → in_set k n ≡ true
  unfolding in_set
  start_in n there s zero = s
  start_in n there s (suc k) = or_left _ _ (set_has k n ∙ and_from _ _ there (start_in n there s k))
