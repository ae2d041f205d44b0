-- Objects in order, put among others in their places.
use Rattle.std.proofs.Common.{◌≡◌, ◌||◌, Bool, true, false, cond, refl, sym, ap, ◌∙◌, List, [], ◌∷◌, filter, IsTrue, inl, inr, arith}
use Rattle.std.proofs.lemmas.Bool.{cases_Bool}
use Rattle.std.proofs.lemmas.Bool.Decides.{nat_tests}
use Rattle.k_types.specs.declared.names.Name.{Name}
use Rattle.k_types.specs.Names.{name_lt}
use Rattle.k_types.specs.State.{Object}
use Rattle.k_types.specs.Updates.{with_object}
use Rattle.k_types.specs.Sound.{IsOrdered}
use Rattle.k_laws.specs.CellChanges.{with_objects}
use Rattle.k_types.proofs.Ordered.{IsBefore, ordered_before, ordered_tail}

kept_before : (o : Object) (p : Object → Bool) (xs : List Object) → IsBefore o xs → IsBefore o (filter p xs)
kept_before o p [] t = tt
kept_before o p (x ∷ xs) t =
    elim (p x) as (λ b. IsBefore o (cond b (x ∷ filter p xs) (filter p xs))) [ true ↦ (t.0, kept_before o p xs t.1) | false ↦ kept_before o p xs t.1 ]

not_after : (a b : Name) → IsTrue (name_lt a b) → name_lt b a ≡ false
not_after a b t = grind (arith, nat_tests)

-- an object before all of the list comes first
pub placed_first : (o : Object) (xs : List Object) → IsBefore o xs → with_object o xs ≡ o ∷ xs
placed_first o [] t = refl
placed_first o (x ∷ xs) t = ap (λ b. cond b (x ∷ with_object o xs) (o ∷ x ∷ xs)) (not_after o.name x.name t.0)

placed_before : (o x : Object) (xs : List Object) → IsTrue (name_lt o.name x.name) → IsBefore o xs → IsBefore o (with_object x xs)
placed_before o x [] low t = (low, tt)
placed_before o x (y ∷ ys) low t =
    elim (name_lt y.name x.name) as (λ b. IsBefore o (cond b (y ∷ with_object x ys) (x ∷ y ∷ ys))) [
      | true ↦ (t.0, placed_before o x ys low t.1)
      | false ↦ (low, t)
    ]

all_placed_before : (o : Object) (more xs : List Object) → IsBefore o more → IsBefore o xs → IsBefore o (with_objects more xs)
all_placed_before o [] xs t u = u
all_placed_before o (x ∷ more) xs t u = placed_before o x (with_objects more xs) t.0 (all_placed_before o more xs t.1 u)

-- objects that all come after it are placed after it
all_placed_after : (o : Object) (more xs : List Object) → IsBefore o more → with_objects more (o ∷ xs) ≡ o ∷ with_objects more xs
all_placed_after o [] xs t = refl
all_placed_after o (x ∷ more) xs t =
    ap (with_object x) (all_placed_after o more xs t.1) ∙ ap (λ b. cond b (o ∷ with_object x (with_objects more xs)) (x ∷ o ∷ with_objects more xs)) t.0

merged_step : (p q : Object → Bool) (o : Object) (xs : List Object) → (p o ≡ true → q o ≡ false) → IsBefore o xs →
    filter (λ x. q x || p x) xs ≡ with_objects (filter p xs) (filter q xs) → filter (λ x. q x || p x) (o ∷ xs) ≡ with_objects (filter p (o ∷ xs)) (filter q (o ∷ xs))
merged_step p q o xs apart before ih =
    elim (cases_Bool (p o)) [
      | inl mine ↦
          rw (mine, apart mine)
          (sym (placed_first o (with_objects (filter p xs) (filter q xs)) (all_placed_before o (filter p xs) (filter q xs) (kept_before o p xs before) (kept_before o q xs before)) ∙ ap (λ ys. o ∷ ys) (sym ih)))
      | inr other ↦ elim (cases_Bool (q o)) [
        | inl theirs ↦ rw (other, theirs) (sym (all_placed_after o (filter p xs) (filter q xs) (kept_before o p xs before) ∙ ap (λ ys. o ∷ ys) (sym ih)))
        | inr none ↦ rw (other, none) ih
      ]
    ]

-- of objects in order, those of two disjoint kinds are those of the one put among those of the other
pub merged : (p q : Object → Bool) (xs : List Object) → ((o : Object) → p o ≡ true → q o ≡ false) → IsOrdered xs → filter (λ x. q x || p x) xs ≡ with_objects (filter p xs) (filter q xs)
merged p q [] apart t = refl
merged p q (o ∷ xs) apart t = merged_step p q o xs (apart o) (ordered_before o xs t) (merged p q xs apart (ordered_tail o.name xs t))

later : (a b c : Name) → name_lt a c ≡ false → IsTrue (name_lt a b) → name_lt b c ≡ false
later a b c e t = grind (arith, nat_tests)

all_later : (p : Name → Bool) (o x : Object) (xs : List Object) → name_lt x.name o.name ≡ false → IsBefore x xs → with_object o (filter (λ y. p y.name) xs) ≡ o ∷ filter (λ y. p y.name) xs
all_later p o x [] e t = refl
all_later p o x (y ∷ ys) e t =
    elim (p y.name) as (λ b. with_object o (cond b (y ∷ filter (λ y. p y.name) ys) (filter (λ y. p y.name) ys)) ≡ o ∷ cond b (y ∷ filter (λ y. p y.name) ys) (filter (λ y. p y.name) ys)) [
      | true ↦ ap (λ b. cond b (y ∷ with_object o (filter (λ y. p y.name) ys)) (o ∷ y ∷ filter (λ y. p y.name) ys)) (later x.name y.name o.name e t.0)
      | false ↦ all_later p o x ys e t.1
    ]

kept_placed_step : (p : Name → Bool) (o x : Object) (xs : List Object) → IsTrue (p o.name) → IsBefore x xs → filter (λ y. p y.name) (with_object o xs) ≡ with_object o (filter (λ y. p y.name) xs) →
    filter (λ y. p y.name) (with_object o (x ∷ xs)) ≡ with_object o (filter (λ y. p y.name) (x ∷ xs))
kept_placed_step p o x xs own before ih =
    elim (cases_Bool (name_lt x.name o.name)) [
      | inl low ↦ rw low (go (p x.name) low)
      | inr high ↦ rw (high, own) (go2 (p x.name) high)
    ]
  where
    go : (b : Bool) → IsTrue (name_lt x.name o.name) → cond b (x ∷ filter (λ y. p y.name) (with_object o xs)) (filter (λ y. p y.name) (with_object o xs)) ≡ with_object o (cond b (x ∷ filter (λ y. p y.name) xs) (filter (λ y. p y.name) xs))
    go true low = ap (λ ys. x ∷ ys) ih ∙ sym (ap (λ b. cond b (x ∷ with_object o (filter (λ y. p y.name) xs)) (o ∷ x ∷ filter (λ y. p y.name) xs)) low)
    go false low = ih

    go2 : (b : Bool) → name_lt x.name o.name ≡ false → o ∷ cond b (x ∷ filter (λ y. p y.name) xs) (filter (λ y. p y.name) xs) ≡ with_object o (cond b (x ∷ filter (λ y. p y.name) xs) (filter (λ y. p y.name) xs))
    go2 true high = sym (ap (λ b. cond b (x ∷ with_object o (filter (λ y. p y.name) xs)) (o ∷ x ∷ filter (λ y. p y.name) xs)) high)
    go2 false high = sym (all_later p o x xs high before)

-- an object that passes is put among those that pass in its place
pub kept_placed : (p : Name → Bool) (o : Object) (xs : List Object) → IsTrue (p o.name) → IsOrdered xs → filter (λ y. p y.name) (with_object o xs) ≡ with_object o (filter (λ y. p y.name) xs)
kept_placed p o [] own t = ap (λ b. cond b (o ∷ []) []) own
kept_placed p o (x ∷ xs) own t = kept_placed_step p o x xs own (ordered_before x xs t) (kept_placed p o xs own (ordered_tail x.name xs t))
