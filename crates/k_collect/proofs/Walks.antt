-- How far a walk over the objects of a heap has come.
use Rattle.std.proofs.Common.{◌≡◌, ◌-◌, ◌≤◌, ◌<◌, ◌||◌, Bool, true, false, cond, refl, sym, ap, ◌∙◌, List, [], ◌∷◌, ◌++◌, length, Option, Some, None, arith, nat_lt, ltb-true}
use Rattle.std.proofs.lemmas.Bool.{false≢true, and_parts}
use Rattle.std.proofs.lemmas.List.{length-append}
use Rattle.k_types.specs.declared.names.Heap.{Heap}
use Rattle.k_types.specs.declared.names.Name.{Name}
use Rattle.k_types.specs.Counted.{Counted, counted}
use Rattle.k_types.specs.Names.{heap_eq, name_among, name_eq}
use Rattle.k_types.specs.Distinct.{AreDistinctNames}
use Rattle.k_types.proofs.NameTests.{heap_eq-true, name_eq-true, name_eq_refl}
use Rattle.k_entry.specs.Entries.{AreEntries, EntryValue, first_object, home_of, items_of, object_after, objects}
use Rattle.k_entry.proofs.WholeWalks.{walk_distinct, walk_has}
use Rattle.k_collect.specs.Graying.{is_counted_at}
use Rattle.k_entry.proofs.Members.{first_among, after_among}

-- the names of the items before that one; of all where there is none
abbrev pub passed_before : List Counted → Option Name → List Name
passed_before [] at = []
passed_before (item ∷ items) None = item.object ∷ passed_before items None
passed_before (item ∷ items) (Some t) = cond (name_eq item.object t) [] (item.object ∷ passed_before items (Some t))

-- the walk is at one of the items, or at its end
abbrev pub IsOnWalk : List Counted → Option Name → Type 0
IsOnWalk items at = (t : Name) → at ≡ Some t → name_among t (objects items) ≡ true

pub none_before : (items : List Counted) → passed_before items (first_object items) ≡ []
none_before [] = refl
none_before (item ∷ items) = ap (λ b. cond b [] (item.object ∷ passed_before items (Some item.object))) (name_eq_refl item.object)

pub all_passed : (items : List Counted) → passed_before items None ≡ objects items
all_passed [] = refl
all_passed (item ∷ items) = ap (λ (names : List Name). item.object ∷ names) (all_passed items)

pub passed_few : (items : List Counted) (at : Option Name) → length (passed_before items at) ≤ length items
passed_few [] at = omega arith
passed_few (item ∷ items) None = let rest = passed_few items None in omega (arith, rest)
passed_few (item ∷ items) (Some t) = elim (name_eq item.object t) as (λ b. length (cond b [] (item.object ∷ passed_before items (Some t))) ≤ length (item ∷ items)) [
  | true ↦ omega arith
  | false ↦ let rest = passed_few items (Some t) in omega (arith, rest)
]

pub first_on_walk : (items : List Counted) → IsOnWalk items (first_object items)
first_on_walk items u is = first_among items u is

pub next_on_walk : (items : List Counted) (t : Name) → IsOnWalk items (object_after items t)
next_on_walk items t u is = after_among items t u is

apart_from : (items : List Counted) (n u : Name) → name_among n (objects items) ≡ false → name_among u (objects items) ≡ true → name_eq n u ≡ false
apart_from items n u out there = go (name_eq n u) refl
  where
    go : (b : Bool) → name_eq n u ≡ b → b ≡ false
    go true e = absurd (false≢true (sym out ∙ ap (λ m. name_among m (objects items)) (name_eq-true n u e) ∙ there))
    go false e = refl

before_other : (item : Counted) (items : List Counted) (at : Option Name) → ((u : Name) → at ≡ Some u → name_eq item.object u ≡ false) →
    passed_before (item ∷ items) at ≡ item.object ∷ passed_before items at
before_other item items None apart = refl
before_other item items (Some u) apart = ap (λ b. cond b [] (item.object ∷ passed_before items (Some u))) (apart u refl)

before_first : (item : Counted) (items : List Counted) (t : Name) → name_among item.object (objects items) ≡ false → name_eq item.object t ≡ true →
    passed_before (item ∷ items) (first_object items) ≡ t ∷ []
before_first item items t out same =
    before_other item items (first_object items) (λ u is. apart_from items item.object u out (first_among items u is))
    ∙ ap (λ (names : List Name). item.object ∷ names) (none_before items)
    ∙ ap (λ (n : Name). n ∷ []) (name_eq-true item.object t same)

-- the walk goes on by one object
pub passed_next : (items : List Counted) (t : Name) → AreDistinctNames (objects items) → name_among t (objects items) ≡ true →
    passed_before items (object_after items t) ≡ passed_before items (Some t) ++ t ∷ []
passed_next [] t distinct there = absurd (false≢true there)
passed_next (item ∷ items) t distinct there = go (λ later. passed_next items t distinct.1 later) (name_eq item.object t) refl there
  where
    go : (name_among t (objects items) ≡ true → passed_before items (object_after items t) ≡ passed_before items (Some t) ++ t ∷ []) →
        (b : Bool) → name_eq item.object t ≡ b → (b || name_among t (objects items)) ≡ true →
        passed_before (item ∷ items) (cond b (first_object items) (object_after items t)) ≡ cond b [] (item.object ∷ passed_before items (Some t)) ++ t ∷ []
    go rest true same here = before_first item items t distinct.0 same
    go rest false other later =
        before_other item items (object_after items t) (λ u is. apart_from items item.object u distinct.0 (after_among items t u is))
        ∙ ap (λ (names : List Name). item.object ∷ names) (rest later)

pub passed_more : (items : List Counted) (t : Name) → AreDistinctNames (objects items) → name_among t (objects items) ≡ true →
    length items - length (passed_before items (object_after items t)) < length items - length (passed_before items (Some t))
passed_more items t distinct there =
    let longer = ap length (passed_next items t distinct there) ∙ length-append (passed_before items (Some t)) (t ∷ []) in
    let most = passed_few items (object_after items t) in
    omega (arith, longer, most)

module _ (v : EntryValue) (heap : Heap) (are : AreEntries v) where
  pub on_walk_counted : (t : Name) → name_among t (objects (items_of v heap)) ≡ true → (0 < counted v.items t) × (home_of v.homes t.seg.0 ≡ heap)
  on_walk_counted t there =
      let both = and_parts (nat_lt 0 (counted v.items t)) (heap_eq (home_of v.homes t.seg.0) heap) (sym (walk_has v heap t are) ∙ there) in
      (ltb-true 0 (counted v.items t) both.0, heap_eq-true (home_of v.homes t.seg.0) heap both.1)

  pub walk_counts : (n : Name) → name_among n (passed_before (items_of v heap) None) ≡ is_counted_at v heap n
  walk_counts n = ap (name_among n) (all_passed (items_of v heap)) ∙ walk_has v heap n are

  pub distinct_walk : AreDistinctNames (objects (items_of v heap))
  distinct_walk = walk_distinct v heap are
