-- Look-ups in lists of objects after a change.
use Rattle.std.proofs.Common.{◌≡◌, ℕ, ◌&&◌, ◌||◌, cond, Bool, true, false, refl, inl, inr, ap, ap₂, ◌∙◌, List, [], ◌∷◌, map, filter, Option, Some, None, is_some, option_map, arith, set, ◌⊎◌, suc, ◌+◌, length}
use Rattle.std.specs.List.{list_any}
use Rattle.std.proofs.lemmas.Bool.{and_from, false≢true, or_parts, or_cases, or_left, or_right}
use Rattle.k_types.specs.declared.names.Name.{Name}
use Rattle.k_types.specs.Names.{name_eq, name_lt, name_among}
use Rattle.k_types.specs.State.{Object, Content, has, object_at, refers, refers_in, content_leads_to}
use Rattle.k_types.specs.Updates.{with_object, object_after_write}
use Rattle.k_types.proofs.Lists.{any-set}
use Rattle.k_types.proofs.Tests.{or_swap}
use Rattle.k_types.proofs.NameTests.{name_eq-true, name_eq_refl, name_eq_sym}

pub has-placed : (o : Object) (xs : List Object) (n : Name) → has (with_object o xs) n ≡ (name_eq o.name n || has xs n)
has-placed o [] n = refl
has-placed o (x ∷ xs) n =
    elim (name_lt x.name o.name) as (λ b. has (cond b (x ∷ with_object o xs) (o ∷ x ∷ xs)) n ≡ (name_eq o.name n || (name_eq x.name n || has xs n))) [
      | true ↦ ap (λ v. name_eq x.name n || v) (has-placed o xs n) ∙ or_swap (name_eq x.name n) (name_eq o.name n) (has xs n)
      | false ↦ refl
    ]

-- name_eq respects names
pub name_eq_along : (m n : Name) (f : Name → Bool) → name_eq m n ≡ true → f m ≡ f n
name_eq_along m n f e = ap f (name_eq-true m n e)

object_at-placed_step : (o x : Object) (xs : List Object) (n : Name) → has (x ∷ xs) o.name ≡ false → object_at (with_object o xs) n ≡ cond (name_eq o.name n) (Some o) (object_at xs n) →
    object_at (with_object o (x ∷ xs)) n ≡ cond (name_eq o.name n) (Some o) (object_at (x ∷ xs) n)
object_at-placed_step o x xs n new ih = grind (arith, ih, new, name_eq-true x.name n, name_eq-true o.name n, name_eq_refl n, name_eq_sym x.name o.name)

pub object_at-placed : (o : Object) (xs : List Object) (n : Name) → has xs o.name ≡ false →
    object_at (with_object o xs) n ≡ cond (name_eq o.name n) (Some o) (object_at xs n)
object_at-placed o [] n new = refl
object_at-placed o (x ∷ xs) n new = object_at-placed_step o x xs n new (object_at-placed o xs n (or_parts (name_eq x.name o.name) (has xs o.name) new).1)

-- an object's new field is not seen by its name
pub written_name : (x : Name) (i : ℕ) (c : Content) (o : Object) → (object_after_write x i c o).name ≡ o.name
written_name x i c o = grind arith

pub has-written : (x : Name) (i : ℕ) (c : Content) (xs : List Object) (n : Name) → has (map (object_after_write x i c) xs) n ≡ has xs n
has-written x i c [] n = refl
has-written x i c (o ∷ xs) n = ap₂ (λ m v. name_eq m n || v) (written_name x i c o) (has-written x i c xs n)

pub object_at-written : (x : Name) (i : ℕ) (c : Content) (xs : List Object) (n : Name) →
    object_at (map (object_after_write x i c) xs) n ≡ option_map (object_after_write x i c) (object_at xs n)
object_at-written x i c [] n = refl
object_at-written x i c (o ∷ xs) n =
    rw (written_name x i c o)
    (elim (name_eq o.name n) as (λ b. cond b (Some (object_after_write x i c o)) (object_at (map (object_after_write x i c) xs) n) ≡ option_map (object_after_write x i c) (cond b (Some o) (object_at xs n))) [
      | true ↦ refl
      | false ↦ object_at-written x i c xs n
    ])

has-kept_step : (stays : Name → Bool) (o : Object) (xs : List Object) (n : Name) → has (filter (λ o. stays o.name) xs) n ≡ (has xs n && stays n) →
    has (filter (λ o. stays o.name) (o ∷ xs)) n ≡ (has (o ∷ xs) n && stays n)
has-kept_step stays o xs n ih = grind (arith, ih, name_eq_along o.name n stays)

pub has-kept : (stays : Name → Bool) (xs : List Object) (n : Name) → has (filter (λ o. stays o.name) xs) n ≡ (has xs n && stays n)
has-kept stays [] n = refl
has-kept stays (o ∷ xs) n = has-kept_step stays o xs n (has-kept stays xs n)

object_at-kept_step : (stays : Name → Bool) (o : Object) (xs : List Object) (n : Name) → object_at (filter (λ o. stays o.name) xs) n ≡ cond (stays n) (object_at xs n) None →
    object_at (filter (λ o. stays o.name) (o ∷ xs)) n ≡ cond (stays n) (object_at (o ∷ xs) n) None
object_at-kept_step stays o xs n ih = grind (arith, ih, name_eq_along o.name n stays)

pub object_at-kept : (stays : Name → Bool) (xs : List Object) (n : Name) →
    object_at (filter (λ o. stays o.name) xs) n ≡ cond (stays n) (object_at xs n) None
object_at-kept stays [] n = elim (stays n) as (λ b. ◌≡◌ {A = Option Object} None (cond b None None)) [ true ↦ refl | false ↦ refl ]
object_at-kept stays (o ∷ xs) n = object_at-kept_step stays o xs n (object_at-kept stays xs n)

-- an object is found exactly where the list has it
pub some_is : {A : Type 0} (o : Option A) → is_some o ≡ true → (a : A) × (o ≡ Some a)
some_is None h = absurd (false≢true h)
some_is (Some a) h = (a, refl)

pub is_some-object_at : (xs : List Object) (n : Name) → is_some (object_at xs n) ≡ has xs n
is_some-object_at [] n = refl
is_some-object_at (x ∷ xs) n = grind (arith, is_some-object_at xs n)

pub found : (xs : List Object) (n : Name) → has xs n ≡ true → (o : Object) × (object_at xs n ≡ Some o)
found xs n h = some_is (object_at xs n) (is_some-object_at xs n ∙ h)

pub has_found : (xs : List Object) (n : Name) (o : Object) → object_at xs n ≡ Some o → has xs n ≡ true
has_found [] n o e = grind arith
has_found (x ∷ xs) n o e = grind (arith, has_found xs n o)

-- the names of objects
pub names_have : (xs : List Object) (n : Name) → name_among n (map (λ (o : Object). o.name) xs) ≡ has xs n
names_have [] n = refl
names_have (x ∷ xs) n = ap (λ b. name_eq x.name n || b) (names_have xs n)

pub refers_found : (xs : List Object) (x y : Name) (o : Object) → object_at xs x ≡ Some o → refers o y ≡ true → refers_in xs x y ≡ true
refers_found [] x y o found leads = absurd (cc found)
refers_found (z ∷ zs) x y o found leads = grind (arith, refers_found zs x y o)

pub found_name : (xs : List Object) (n : Name) (o : Object) → object_at xs n ≡ Some o → o.name ≡ n
found_name [] n o e = grind arith
found_name (x ∷ xs) n o e = grind (arith, found_name xs n o, name_eq-true x.name n)

-- the objects that a test of their names keeps, after an object was placed or written that the test drops
pub kept-placed_other : (p : Name → Bool) (o : Object) (xs : List Object) → p o.name ≡ false →
    filter (λ x. p x.name) (with_object o xs) ≡ filter (λ x. p x.name) xs
kept-placed_other p o [] e = rw e
kept-placed_other p o (x ∷ xs) e = grind (arith, e, kept-placed_other p o xs e)

pub kept-written_other : (p : Name → Bool) (n : Name) (i : ℕ) (c : Content) (xs : List Object) → p n ≡ false →
    filter (λ x. p x.name) (map (object_after_write n i c) xs) ≡ filter (λ x. p x.name) xs
kept-written_other p n i c [] e = refl
kept-written_other p n i c (x ∷ xs) e = grind (arith, e, kept-written_other p n i c xs e, name_eq_along x.name n p)

-- references after a change
refers_in-placed_step : (o x : Object) (xs : List Object) (a b : Name) →
    refers_in (with_object o xs) a b ≡ ((name_eq o.name a && refers o b) || refers_in xs a b) →
    refers_in (with_object o (x ∷ xs)) a b ≡ ((name_eq o.name a && refers o b) || refers_in (x ∷ xs) a b)
refers_in-placed_step o x xs a b ih =
    elim (name_lt x.name o.name) as (λ t. refers_in (cond t (x ∷ with_object o xs) (o ∷ x ∷ xs)) a b ≡ ((name_eq o.name a && refers o b) || refers_in (x ∷ xs) a b)) [
      | true ↦ ap (λ v. (name_eq x.name a && refers x b) || v) ih ∙ or_swap (name_eq x.name a && refers x b) (name_eq o.name a && refers o b) (refers_in xs a b)
      | false ↦ refl
    ]

pub refers_in-placed : (o : Object) (xs : List Object) (a b : Name) → refers_in (with_object o xs) a b ≡ ((name_eq o.name a && refers o b) || refers_in xs a b)
refers_in-placed o [] a b = refl
refers_in-placed o (x ∷ xs) a b = refers_in-placed_step o x xs a b (refers_in-placed o xs a b)

refers_in-kept_step : (stays : Name → Bool) (o : Object) (xs : List Object) (a b : Name) →
    refers_in (filter (λ o. stays o.name) xs) a b ≡ (refers_in xs a b && stays a) →
    refers_in (filter (λ o. stays o.name) (o ∷ xs)) a b ≡ (refers_in (o ∷ xs) a b && stays a)
refers_in-kept_step stays o xs a b ih = grind (arith, ih, name_eq_along o.name a stays)

pub refers_in-kept : (stays : Name → Bool) (xs : List Object) (a b : Name) → refers_in (filter (λ o. stays o.name) xs) a b ≡ (refers_in xs a b && stays a)
refers_in-kept stays [] a b = refl
refers_in-kept stays (o ∷ xs) a b = refers_in-kept_step stays o xs a b (refers_in-kept stays xs a b)

-- the object that refers is there
pub refers_in_has : (xs : List Object) (a b : Name) → refers_in xs a b ≡ true → has xs a ≡ true
refers_in_has [] a b h = h
refers_in_has (x ∷ xs) a b h = grind (arith, refers_in_has xs a b)

-- where some object refers to the name there is one of some name that does
pub referrer : (xs : List Object) (b : Name) → list_any (λ x. refers x b) xs ≡ true → (a : Name) × (refers_in xs a b ≡ true)
referrer [] b h = absurd (false≢true h)
referrer (x ∷ xs) b h =
    elim (or_cases (refers x b) (list_any (λ y. refers y b) xs) h) [
      | inl t ↦ (x.name, or_left _ _ (and_from _ _ (name_eq_refl x.name) t))
      | inr t ↦ let r = referrer xs b t in (r.0, or_right _ _ r.1)
    ]

pub referred : (xs : List Object) (a b : Name) → refers_in xs a b ≡ true → list_any (λ x. refers x b) xs ≡ true
referred [] a b h = h
referred (x ∷ xs) a b h = grind (arith, referred xs a b)

-- a reference after a write was there before, or was written
refers-set : (content : List Content) (i : ℕ) (c : Content) (b : Name) → list_any (content_leads_to b) (set content i c) ≡ true →
    (list_any (content_leads_to b) content ≡ true) ⊎ (content_leads_to b c ≡ true)
refers-set content i c b h = any-set (content_leads_to b) content i c h

refers-written : (x : Name) (i : ℕ) (c : Content) (o : Object) (a b : Name) → (name_eq (object_after_write x i c o).name a && refers (object_after_write x i c o) b) ≡ true →
    ((name_eq o.name a && refers o b) ≡ true) ⊎ ((a ≡ x) × (content_leads_to b c ≡ true))
refers-written x i c o a b h =
    grind (arith, refers-set o.fields i c b, name_eq-true o.name x, name_eq-true o.name a)

pub refers_in-written : (x : Name) (i : ℕ) (c : Content) (xs : List Object) (a b : Name) → refers_in (map (object_after_write x i c) xs) a b ≡ true →
    (refers_in xs a b ≡ true) ⊎ ((a ≡ x) × (content_leads_to b c ≡ true))
refers_in-written x i c [] a b h = inl h
refers_in-written x i c (o ∷ xs) a b h =
    elim (or_cases (name_eq (object_after_write x i c o).name a && refers (object_after_write x i c o) b) (refers_in (map (object_after_write x i c) xs) a b) h) [
      | inl t ↦ elim (refers-written x i c o a b t) [ inl u ↦ inl (or_left (name_eq o.name a && refers o b) (refers_in xs a b) u) | inr u ↦ inr u ]
      | inr t ↦ elim (refers_in-written x i c xs a b t) [ inl u ↦ inl (or_right (name_eq o.name a && refers o b) (refers_in xs a b) u) | inr u ↦ inr u ]
    ]

kept-written_step : (p : Name → Bool) (n : Name) (i : ℕ) (c : Content) (x : Object) (xs : List Object) →
    filter (λ x. p x.name) (map (object_after_write n i c) xs) ≡ map (object_after_write n i c) (filter (λ x. p x.name) xs) →
    filter (λ x. p x.name) (map (object_after_write n i c) (x ∷ xs)) ≡ map (object_after_write n i c) (filter (λ x. p x.name) (x ∷ xs))
kept-written_step p n i c x xs ih =
    rw (written_name n i c x)
    (elim (p x.name) as (λ b. cond b (object_after_write n i c x ∷ filter (λ x. p x.name) (map (object_after_write n i c) xs)) (filter (λ x. p x.name) (map (object_after_write n i c) xs)) ≡ map (object_after_write n i c) (cond b (x ∷ filter (λ x. p x.name) xs) (filter (λ x. p x.name) xs))) [
      | true ↦ ap (λ ys. object_after_write n i c x ∷ ys) ih
      | false ↦ ih
    ])

pub kept-written : (p : Name → Bool) (n : Name) (i : ℕ) (c : Content) (xs : List Object) → filter (λ x. p x.name) (map (object_after_write n i c) xs) ≡ map (object_after_write n i c) (filter (λ x. p x.name) xs)
kept-written p n i c [] = refl
kept-written p n i c (x ∷ xs) = kept-written_step p n i c x xs (kept-written p n i c xs)

pub length-placed : (o : Object) (xs : List Object) → length (with_object o xs) ≡ 1 + length xs
length-placed o [] = refl
length-placed o (x ∷ xs) = elim (name_lt x.name o.name) as (λ b. length (cond b (x ∷ with_object o xs) (o ∷ x ∷ xs)) ≡ 1 + suc (length xs)) [
  | true ↦ omega (arith, length-placed o xs)
  | false ↦ omega arith
]
