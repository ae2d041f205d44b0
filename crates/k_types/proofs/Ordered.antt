-- Objects in the order of their names.
use Rattle.std.proofs.Common.{List, [], ◌∷◌, IsTrue, ◌≡◌, true, false, sym, ap, ◌∙◌, inl, inr, cond, refl, ℕ, map, Option, Some, subst}
use Rattle.k_types.specs.declared.names.Name.{Name}
use Rattle.k_types.specs.Names.{name_lt, name_eq}
use Rattle.k_types.specs.State.{Object, has, Content, object_at}
use Rattle.k_types.specs.Sound.{IsOrdered, IsOrderedFrom}
use Rattle.k_types.proofs.NameTests.{name_lt_trans, name_eq-true, name_lt_total, name_eq_refl, name_lt_apart}
use Rattle.std.proofs.lemmas.Bool.{or_cases, false≢true, or_parts}
use Rattle.k_types.specs.Updates.{with_object, object_after_write}
use Rattle.k_types.proofs.Objects.{written_name, found_name}
use Rattle.std.specs.List.{AllByRecursion}
use Rattle.k_types.proofs.Lists.{found_holds}

pub ordered_tail : (m : Name) (xs : List Object) → IsOrderedFrom m xs → IsOrdered xs
ordered_tail m [] t = tt
ordered_tail m (x ∷ xs) t = t.1

-- the object comes before all of the list
abbrev pub IsBefore : Object → List Object → Type 0
IsBefore o [] = Unit {0}
IsBefore o (x ∷ xs) = IsTrue (name_lt o.name x.name) × IsBefore o xs

pub before_from : (o : Object) (m : Name) (xs : List Object) → IsTrue (name_lt o.name m) → IsOrderedFrom m xs → IsBefore o xs
before_from o m [] low t = tt
before_from o m (x ∷ xs) low t = let here = name_lt_trans o.name m x.name low t.0 in (here, before_from o x.name xs here t.1)

pub ordered_before : (o : Object) (xs : List Object) → IsOrderedFrom o.name xs → IsBefore o xs
ordered_before o [] t = tt
ordered_before o (x ∷ xs) t = (t.0, before_from o x.name xs t.0 t.1)

pub ordered_later : (m : Name) (xs : List Object) (n : Name) → IsOrderedFrom m xs → has xs n ≡ true → name_lt m n ≡ true
ordered_later m [] n ordered t = absurd (false≢true t)
ordered_later m (x ∷ xs) n ordered t =
    elim (or_cases (name_eq x.name n) (has xs n) t) [
      | inl here ↦ ap (name_lt m) (sym (name_eq-true x.name n here)) ∙ ordered.0
      | inr there ↦ name_lt_trans m x.name n ordered.0 (ordered_later x.name xs n ordered.1 there)
    ]

pub ordered-placed_from : (o : Object) (m : Name) (xs : List Object) → IsTrue (name_lt m o.name) → has xs o.name ≡ false → IsOrderedFrom m xs → IsOrderedFrom m (with_object o xs)
ordered-placed_from o m [] first new t = (first, tt)
ordered-placed_from o m (x ∷ xs) first new t =
    let parts = or_parts (name_eq x.name o.name) (has xs o.name) new in
    elim (name_lt x.name o.name) as (λ b. name_lt x.name o.name ≡ b → IsOrderedFrom m (cond b (x ∷ with_object o xs) (o ∷ x ∷ xs))) [
      | true ↦ λ e. (t.0, ordered-placed_from o x.name xs e parts.1 t.1)
      | false ↦ λ e. (first, (name_lt_total x.name o.name e parts.0, t.1))
    ] refl

pub ordered-placed : (o : Object) (xs : List Object) → has xs o.name ≡ false → IsOrdered xs → IsOrdered (with_object o xs)
ordered-placed o [] new t = tt
ordered-placed o (x ∷ xs) new t =
    let parts = or_parts (name_eq x.name o.name) (has xs o.name) new in
    elim (name_lt x.name o.name) as (λ b. name_lt x.name o.name ≡ b → IsOrdered (cond b (x ∷ with_object o xs) (o ∷ x ∷ xs))) [
      | true ↦ λ e. ordered-placed_from o x.name xs e parts.1 t
      | false ↦ λ e. (name_lt_total x.name o.name e parts.0, t)
    ] refl

pub ordered-written_from : (x : Name) (i : ℕ) (c : Content) (m : Name) (xs : List Object) → IsOrderedFrom m xs → IsOrderedFrom m (map (object_after_write x i c) xs)
ordered-written_from x i c m [] t = tt
ordered-written_from x i c m (o ∷ xs) t = rw (written_name x i c o) (t.0, ordered-written_from x i c o.name xs t.1)

pub ordered-written : (x : Name) (i : ℕ) (c : Content) (xs : List Object) → IsOrdered xs → IsOrdered (map (object_after_write x i c) xs)
ordered-written x i c [] t = tt
ordered-written x i c (o ∷ xs) t = rw (written_name x i c o) (ordered-written_from x i c o.name xs t)

-- an object comes before each of a list
all_after : (x : Object) (xs : List Object) → IsBefore x xs → AllByRecursion (λ (o : Object). name_lt x.name o.name ≡ true) xs
all_after x [] before = tt
all_after x (y ∷ ys) before = (before.0, all_after x ys before.1)

-- and has another name
apart : (x : Object) (xs : List Object) (n : Name) (o : Object) → IsBefore x xs → object_at xs n ≡ Some o → name_eq x.name n ≡ false
apart x xs n o before at =
    name_lt_apart x.name n
    (subst (λ (m : Name). name_lt x.name m ≡ true) (found_name xs n o at)
    (found_holds (λ (p : Object). name_lt x.name p.name ≡ true) (λ (p : Object). name_eq p.name n) xs o (all_after x xs before) at))

-- what holds of each that is found holds of all
pub all_found : (P : Object → Type 0) (xs : List Object) → ((n : Name) (o : Object) → object_at xs n ≡ Some o → P o) → IsOrdered xs → AllByRecursion P xs
all_found P [] found ordered = tt
all_found P (x ∷ xs) found ordered = (
  found x.name x (ap (λ b. cond b (Some x) (object_at xs x.name)) (name_eq_refl x.name)),
  all_found P xs
      (λ n o at. found n o (ap (λ b. cond b (Some x) (object_at xs n)) (apart x xs n o (ordered_before x xs ordered) at) ∙ at))
      (ordered_tail x.name xs ordered),
)
