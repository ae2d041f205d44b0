-- Objects in the order of their names.
use Rattle.std.proofs.Common.{◌≡◌, ◌⊎◌, inl, inr, ℕ, zero, suc, ◌<◌, ◌≤◌, cond, Bool, true, false, refl, ap, sym, ◌∙◌, ◌||◌, List, [], ◌∷◌, map, insert, Some, None, length, get_or, set, arith}
use Rattle.std.specs.Prelude.{IsTrue}
use Rattle.std.proofs.lemmas.Bool.{cases_eq, false≢true, or_cases, or_left, or_parts, or_right}
use Rattle.k_types.specs.declared.names.Name.{Name}
use Rattle.k_types.specs.Names.{name_eq, name_lt}
use Rattle.k_types.specs.State.{Content, Object, has, object_at}
use Rattle.k_types.specs.Updates.{object_after_write, with_object}
use Rattle.k_types.specs.Sound.{IsOrdered, IsOrderedFrom}
use Rattle.k_laws.proofs.NameTests.{name_eq-true, name_lt_apart, name_lt_apart_back, name_lt_total, name_lt_trans}
use Rattle.k_state.specs.Marks.{marked}
use Rattle.k_state.specs.Places.{IsPlace}
use Rattle.k_laws.proofs.Ordered.{ordered_tail}

-- what follows comes after
pub before_all : (n : Name) (xs : List Object) (i : ℕ) (d : Object) → IsOrderedFrom n xs → i < length xs → name_lt n (get_or xs i d).name ≡ true
before_all n [] i d ordered inside = absurd (omega arith)
before_all n (x ∷ xs) zero d ordered inside = ordered.0
before_all n (x ∷ xs) (suc i) d ordered inside = name_lt_trans n x.name (get_or xs i d).name ordered.0 (before_all x.name xs i d ordered.1 (omega arith))

place_first : (o x : Object) (xs : List Object) → name_lt x.name o.name ≡ true → with_object o (x ∷ xs) ≡ x ∷ with_object o xs
place_first o x xs lt = ap (λ b. cond b (x ∷ with_object o xs) (o ∷ x ∷ xs)) lt

none_later : (n m : Name) (xs : List Object) → name_lt n m ≡ true → IsOrderedFrom m xs → has xs n ≡ false
none_later n m [] lt ordered = refl
none_later n m (x ∷ xs) lt ordered =
    let more = name_lt_trans n m x.name lt ordered.0 in
    ap (λ b. b || has xs n) (name_lt_apart_back n x.name more) ∙ none_later n x.name xs more ordered.1

-- of two objects the earlier comes first
pub ordered_at : (xs : List Object) (i j : ℕ) (d : Object) → IsOrdered xs → i < j → j < length xs → name_lt (get_or xs i d).name (get_or xs j d).name ≡ true
ordered_at [] i j d ordered low inside = absurd (omega arith)
ordered_at (x ∷ xs) i zero d ordered low inside = absurd (omega arith)
ordered_at (x ∷ xs) zero (suc j) d ordered low inside = before_all x.name xs j d ordered (omega arith)
ordered_at (x ∷ xs) (suc i) (suc j) d ordered low inside = ordered_at xs i j d (ordered_tail x.name xs ordered) (omega arith) (omega arith)

-- where one object comes before the name all up to it do
pub before_through : (xs : List Object) (n : Name) (m k : ℕ) (d : Object) → IsOrdered xs → m < length xs → name_lt (get_or xs m d).name n ≡ true → k ≤ m →
    name_lt (get_or xs k d).name n ≡ true
before_through xs n m k d ordered inside lt low =
    elim (cases_eq k m) [
      | inl e ↦ ap (λ j. name_lt (get_or xs j d).name n) e ∙ lt
      | inr ne ↦ name_lt_trans (get_or xs k d).name (get_or xs m d).name n (ordered_at xs k m d ordered (omega arith) inside) lt
    ]

-- where one object does not come before the name none from it on does
pub after_from : (xs : List Object) (n : Name) (m k : ℕ) (d : Object) → IsOrdered xs → m ≤ k → k < length xs → name_lt (get_or xs m d).name n ≡ false →
    name_lt (get_or xs k d).name n ≡ false
after_from xs n m k d ordered low inside ge =
    elim (name_lt (get_or xs k d).name n) as (λ b. name_lt (get_or xs k d).name n ≡ b → b ≡ false) [
      | true ↦ λ lt. absurd (false≢true (sym ge ∙ before_through xs n k m d ordered inside lt low))
      | false ↦ λ lt. refl
    ] refl

place_rest : (n : Name) (x : Object) (xs : List Object) (at : ℕ) → IsPlace (x ∷ xs) n (suc at) → IsPlace xs n at
place_rest n x xs at place = record {
  within = let w = place.within in omega arith;
  before = λ k d low. place.before (suc k) d (omega arith);
  after = λ k d low inside. place.after (suc k) d (omega arith) (omega arith);
}

-- an object of the name goes to its place
pub placed_at : (o : Object) (xs : List Object) (at : ℕ) → IsPlace xs o.name at → with_object o xs ≡ insert xs at o
placed_at o [] zero place = refl
placed_at o [] (suc at) place = absurd (let w = place.within in omega arith)
placed_at o (x ∷ xs) zero place = ap (λ b. cond b (x ∷ with_object o xs) (o ∷ x ∷ xs)) (place.after 0 x (omega arith) (omega arith))
placed_at o (x ∷ xs) (suc at) place =
    place_first o x xs (place.before 0 x (omega arith)) ∙ ap (λ ys. x ∷ ys) (placed_at o xs at (place_rest o.name x xs at place))

-- no object has the name, unless the one at its place does
pub none_named : (n : Name) (xs : List Object) (at : ℕ) → IsOrdered xs → IsPlace xs n at → ((d : Object) → at < length xs → name_eq (get_or xs at d).name n ≡ false) → has xs n ≡ false
none_named n [] at ordered place other = refl
none_named n (x ∷ xs) zero ordered place other =
    let apart = other x (omega arith) in
    let lt = name_lt_total x.name n (place.after 0 x (omega arith) (omega arith)) apart in
    ap (λ b. b || has xs n) apart ∙ none_later n x.name xs lt ordered
none_named n (x ∷ xs) (suc at) ordered place other =
    let lt = place.before 0 x (omega arith) in
    ap (λ b. b || has xs n) (name_lt_apart x.name n lt)
    ∙ none_named n xs at (ordered_tail x.name xs ordered) (place_rest n x xs at place) (λ d inside. other d (omega arith))

-- the object of an index that has the name is the one that is found
pub found_at : (n : Name) (xs : List Object) (k : ℕ) (d : Object) → IsOrdered xs → k < length xs → name_eq (get_or xs k d).name n ≡ true →
    object_at xs n ≡ Some (get_or xs k d)
found_at n [] k d ordered inside named = absurd (omega arith)
found_at n (x ∷ xs) zero d ordered inside named = ap (λ b. cond b (Some x) (object_at xs n)) named
found_at n (x ∷ xs) (suc k) d ordered inside named =
    let lt : name_lt x.name n ≡ true
    = ap (name_lt x.name) (sym (name_eq-true (get_or xs k d).name n named)) ∙ before_all x.name xs k d ordered (omega arith) in
    ap (λ b. cond b (Some x) (object_at xs n)) (name_lt_apart x.name n lt)
    ∙ found_at n xs k d (ordered_tail x.name xs ordered) (omega arith) named

pub found_none : (n : Name) (xs : List Object) → has xs n ≡ false → object_at xs n ≡ None
found_none n [] none = refl
found_none n (x ∷ xs) none =
    let parts = or_parts (name_eq x.name n) (has xs n) none in
    ap (λ b. cond b (Some x) (object_at xs n)) parts.0 ∙ found_none n xs parts.1

unwritten : (n : Name) (i : ℕ) (c : Content) (x : Object) → name_eq x.name n ≡ false → object_after_write n i c x ≡ x
unwritten n i c x apart = ap (λ b. cond b (record x { fields = set x.fields i c }) x) apart

all_later : (n : Name) (i : ℕ) (c : Content) (xs : List Object) (m : Name) → m ≡ n → IsOrderedFrom m xs → map (object_after_write n i c) xs ≡ xs
all_later n i c [] m same ordered = refl
all_later n i c (x ∷ xs) m same ordered =
    let lt : name_lt n x.name ≡ true = ap (λ k. name_lt k x.name) (sym same) ∙ ordered.0 in
    ap (λ y. y ∷ map (object_after_write n i c) xs) (unwritten n i c x (name_lt_apart_back n x.name lt))
    ∙ ap (λ ys. x ∷ ys) (after_more n i c xs x.name lt ordered.1)
  where
    after_more : (n : Name) (i : ℕ) (c : Content) (xs : List Object) (k : Name) → name_lt n k ≡ true → IsOrderedFrom k xs → map (object_after_write n i c) xs ≡ xs
    after_more n i c [] k lt ordered = refl
    after_more n i c (y ∷ ys) k lt ordered =
        let more = name_lt_trans n k y.name lt ordered.0 in
        ap (λ z. z ∷ map (object_after_write n i c) ys) (unwritten n i c y (name_lt_apart_back n y.name more))
        ∙ ap (λ zs. y ∷ zs) (after_more n i c ys y.name more ordered.1)

-- a write changes the one object of the name
pub written_once : (n : Name) (i : ℕ) (c : Content) (xs : List Object) (k : ℕ) (d : Object) → IsOrdered xs → k < length xs → name_eq (get_or xs k d).name n ≡ true →
    map (object_after_write n i c) xs ≡ set xs k (object_after_write n i c (get_or xs k d))
written_once n i c [] k d ordered inside named = absurd (omega arith)
written_once n i c (x ∷ xs) zero d ordered inside named =
    ap (λ ys. object_after_write n i c x ∷ ys) (all_later n i c xs x.name (name_eq-true x.name n named) ordered)
written_once n i c (x ∷ xs) (suc k) d ordered inside named =
    let lt : name_lt x.name n ≡ true
    = ap (name_lt x.name) (sym (name_eq-true (get_or xs k d).name n named)) ∙ before_all x.name xs k d ordered (omega arith) in
    ap (λ y. y ∷ map (object_after_write n i c) xs) (unwritten n i c x (name_lt_apart x.name n lt))
    ∙ ap (λ ys. x ∷ ys) (written_once n i c xs k d (ordered_tail x.name xs ordered) (omega arith) named)

-- where there is no such object nothing changes
pub written_none : (n : Name) (i : ℕ) (c : Content) (xs : List Object) → has xs n ≡ false → map (object_after_write n i c) xs ≡ xs
written_none n i c [] none = refl
written_none n i c (x ∷ xs) none =
    let parts = or_parts (name_eq x.name n) (has xs n) none in
    ap (λ y. y ∷ map (object_after_write n i c) xs) (unwritten n i c x parts.0) ∙ ap (λ ys. x ∷ ys) (written_none n i c xs parts.1)

-- and where some go
ordered_marked_from : (marks : List Bool) (m k : Name) (xs : List Object) → (m ≡ k) ⊎ IsTrue (name_lt m k) → IsOrderedFrom k xs → IsOrderedFrom m (marked marks xs)
ordered_marked_from [] m k xs low t = tt
ordered_marked_from (mark ∷ marks) m k [] low t = tt
ordered_marked_from (true ∷ marks) m k (o ∷ xs) low t =
    let after : IsTrue (name_lt m o.name) = elim low [ inl e ↦ rw e t.0 | inr l ↦ name_lt_trans m k o.name l t.0 ] in
    (after, ordered_marked_from marks o.name o.name xs (inl refl) t.1)
ordered_marked_from (false ∷ marks) m k (o ∷ xs) low t =
    let after : IsTrue (name_lt m o.name) = elim low [ inl e ↦ rw e t.0 | inr l ↦ name_lt_trans m k o.name l t.0 ] in
    ordered_marked_from marks m o.name xs (inr after) t.1

pub ordered_marked : (marks : List Bool) (xs : List Object) → IsOrdered xs → IsOrdered (marked marks xs)
ordered_marked [] xs t = tt
ordered_marked (mark ∷ marks) [] t = tt
ordered_marked (true ∷ marks) (o ∷ xs) t = ordered_marked_from marks o.name o.name xs (inl refl) t
ordered_marked (false ∷ marks) (o ∷ xs) t = ordered_marked marks xs (ordered_tail o.name xs t)

pub has_marked : (marks : List Bool) (xs : List Object) (n : Name) → IsTrue (has (marked marks xs) n) → IsTrue (has xs n)
has_marked [] xs n there = absurd (false≢true there)
has_marked (mark ∷ marks) [] n there = absurd (false≢true there)
has_marked (true ∷ marks) (o ∷ xs) n there =
    elim (or_cases (name_eq o.name n) (has (marked marks xs) n) there) [
      | inl t ↦ or_left (name_eq o.name n) (has xs n) t
      | inr t ↦ or_right (name_eq o.name n) (has xs n) (has_marked marks xs n t)
    ]
has_marked (false ∷ marks) (o ∷ xs) n there = or_right (name_eq o.name n) (has xs n) (has_marked marks xs n there)
