-- A walk gives each object of a home once.
use Rattle.std.proofs.Common.{◌≡◌, ℕ, zero, suc, ◌+◌, ◌<◌, ◌≤◌, ◌&&◌, ◌||◌, Bool, true, false, cond, refl, sym, ap, ◌∙◌, List, [], ◌∷◌, ◌++◌, append_assoc, length, filter, count_by, slice_get, nat_lt, Some, arith}
use Rattle.std.proofs.lemmas.Bool.{lt-ltb}
use Rattle.std.proofs.lemmas.List.Sums.{sum_by-cons}
use Rattle.k_types.specs.Totals.{total}
use Rattle.k_types.specs.declared.names.Name.{Name}
use Rattle.k_types.specs.declared.names.Heap.{Heap}
use Rattle.k_types.specs.Names.{name_eq, name_among, heap_eq}
use Rattle.k_types.specs.Counted.{Counted, counted}
use Rattle.k_types.specs.Distinct.{AreDistinctNames}
use Rattle.k_types.proofs.Distinct.{distinct_names}
use Rattle.k_types.proofs.NameTests.{name_eq-true, name_eq_refl}
use Rattle.k_entry.specs.Entries.{EntryValue, AreEntries, first_object, home_of, items_of, object_after, objects, passed}
use Rattle.k_entry.proofs.Counts.{bit, adds}

-- how many items are that object's
abbrev times : Name → List Counted → ℕ
times t items = count_by (λ item. name_eq item.object t) items

abbrev Once : List Counted → Type 0
Once items = (t : Name) → times t items ≤ 1

times-cons : (t : Name) (x : Counted) (xs : List Counted) → times t (x ∷ xs) ≡ bit (name_eq x.object t) + times t xs
times-cons t x xs = sum_by-cons (λ item. bit (name_eq item.object t)) x xs

times_there : (item : Counted) (front rest : List Counted) → 1 ≤ times item.object (front ++ item ∷ rest)
times_there item [] rest = let one : bit (name_eq item.object item.object) ≡ 1 = ap bit (name_eq_refl item.object) in omega (arith, times-cons item.object item rest, one)
times_there item (x ∷ front) rest = omega (arith, times-cons item.object x (front ++ item ∷ rest), times_there item front rest)

-- the object after one of distinct ones
after_front : (item : Counted) (front rest : List Counted) → Once (front ++ item ∷ rest) → object_after (front ++ item ∷ rest) item.object ≡ first_object rest
after_front item [] rest once = ap (λ b. cond b (first_object rest) (object_after rest item.object)) (name_eq_refl item.object)
after_front item (x ∷ front) rest once =
    elim (name_eq x.object item.object) as (λ b. name_eq x.object item.object ≡ b → cond b (first_object (front ++ item ∷ rest)) (object_after (front ++ item ∷ rest) item.object) ≡ first_object rest) [
      | true ↦ λ is. absurd (let one : bit (name_eq x.object item.object) ≡ 1 = ap bit is in omega (arith, times-cons item.object x (front ++ item ∷ rest), one, times_there item front rest, once item.object))
      | false ↦ λ is. after_front item front rest (λ t. omega (arith, times-cons t x (front ++ item ∷ rest), once t))
    ] refl

-- those of one home are distinct too
fewer : (q : Counted → Bool) (t : Name) (items : List Counted) → times t (filter q items) ≤ times t items
fewer q t [] = omega arith
fewer q t (x ∷ xs) =
    elim (q x) as (λ b. times t (cond b (x ∷ filter q xs) (filter q xs)) ≤ times t (x ∷ xs)) [
      | true ↦ omega (arith, times-cons t x (filter q xs), times-cons t x xs, fewer q t xs)
      | false ↦ omega (arith, times-cons t x xs, fewer q t xs)
    ]

once_home : (v : EntryValue) (heap : Heap) → AreEntries v → Once (items_of v heap)
once_home v heap e t = omega (arith, fewer (λ item. heap_eq (home_of v.homes item.object.seg.0) heap) t v.items, e.distinct t)

pub after_one : (v : EntryValue) (heap : Heap) (front rest : List Counted) (item : Counted) → AreEntries v → items_of v heap ≡ front ++ item ∷ rest → object_after (items_of v heap) item.object ≡ first_object rest
after_one v heap front rest item e is =
    ap (λ xs. object_after xs item.object) is ∙ after_front item front rest (λ t. omega (arith, once_home v heap e t, ap (times t) is))

-- from any place on
walk_on : (items : List Counted) (steps : ℕ) (front rest : List Counted) → Once items → items ≡ front ++ rest → length rest ≤ steps → passed items steps (first_object rest) ≡ objects rest
unfolding passed
walk_on items zero front [] once is enough = refl
walk_on items (suc n) front [] once is enough = refl
walk_on items zero front (item ∷ rest) once is enough = absurd (omega (arith, enough))
walk_on items (suc n) front (item ∷ rest) once is enough =
    ap (λ names. item.object ∷ names)
    (ap (passed items n) (ap (λ xs. object_after xs item.object) is ∙ after_front item front rest (λ t. omega (arith, once t, ap (times t) is)))
    ∙ walk_on items n (front ++ item ∷ []) rest once (is ∙ sym (append_assoc front (item ∷ []) rest)) (omega (arith, enough)))

pub whole_walk : (v : EntryValue) (heap : Heap) (steps : ℕ) → AreEntries v → length (items_of v heap) ≤ steps → passed (items_of v heap) steps (first_object (items_of v heap)) ≡ objects (items_of v heap)
whole_walk v heap steps e enough = walk_on (items_of v heap) steps [] (items_of v heap) (once_home v heap e) refl enough

pub walk_distinct : (v : EntryValue) (heap : Heap) → AreEntries v → AreDistinctNames (objects (items_of v heap))
walk_distinct v heap e = distinct_names (λ (item : Counted). item.object) (items_of v heap) (once_home v heap e)

pub all_distinct : (v : EntryValue) → AreEntries v → AreDistinctNames (objects v.items)
all_distinct v e = distinct_names (λ (item : Counted). item.object) v.items e.distinct

and_false : (b : Bool) → (b && false) ≡ false
and_false true = refl
and_false false = refl

-- an object is among those that pass a test of its name exactly where it is counted and passes
among_more : (p : Name → Bool) (x : Counted) (xs : List Counted) (n : Name) → 0 < x.count → name_among n (objects (filter (λ item. p item.object) xs)) ≡ (nat_lt 0 (counted xs n) && p n) →
    name_among n (objects (filter (λ item. p item.object) (x ∷ xs))) ≡ (nat_lt 0 (counted (x ∷ xs) n) && p n)
among_more p x xs n some rest =
    elim (name_eq x.object n) as (λ b. name_eq x.object n ≡ b → name_among n (objects (cond (p x.object) (x ∷ filter (λ item. p item.object) xs) (filter (λ item. p item.object) xs))) ≡ (nat_lt 0 (counted (x ∷ xs) n) && p n)) [
      | true ↦ λ is.
          let here : adds n x ≡ x.count = ap (λ b. cond b x.count 0) is in
          let positive : nat_lt 0 (counted (x ∷ xs) n) ≡ true = lt-ltb 0 (counted (x ∷ xs) n) (omega (arith, here, some)) in
          ap (λ m. name_among n (objects (cond (p m) (x ∷ filter (λ item. p item.object) xs) (filter (λ item. p item.object) xs)))) (name_eq-true x.object n is)
          ∙ passing (p n) refl is ∙ sym (ap (λ b. b && p n) positive)
      | false ↦ λ is.
          let none : adds n x ≡ 0 = ap (λ b. cond b x.count 0) is in
          let same : counted (x ∷ xs) n ≡ counted xs n = omega (arith, none) in
          skipped (p x.object) is ∙ rest ∙ sym (ap (λ m. nat_lt 0 m && p n) same)
    ] refl
  where
    passing : (b : Bool) → p n ≡ b → name_eq x.object n ≡ true → name_among n (objects (cond b (x ∷ filter (λ item. p item.object) xs) (filter (λ item. p item.object) xs))) ≡ p n
    passing true on is = ap (λ c. c || name_among n (objects (filter (λ item. p item.object) xs))) is ∙ sym on
    passing false off is = rest ∙ ap (λ c. nat_lt 0 (counted xs n) && c) off ∙ and_false (nat_lt 0 (counted xs n)) ∙ sym off

    skipped : (b : Bool) → name_eq x.object n ≡ false → name_among n (objects (cond b (x ∷ filter (λ item. p item.object) xs) (filter (λ item. p item.object) xs))) ≡ name_among n (objects (filter (λ item. p item.object) xs))
    skipped true is = ap (λ c. c || name_among n (objects (filter (λ item. p item.object) xs))) is
    skipped false is = refl

among_passing : (p : Name → Bool) (items : List Counted) (n : Name) → ((i : ℕ) (item : Counted) → slice_get items i ≡ Some item → 0 < item.count) → name_among n (objects (filter (λ item. p item.object) items)) ≡ (nat_lt 0 (counted items n) && p n)
among_passing p [] n some = refl
among_passing p (x ∷ xs) n some = among_more p x xs n (some 0 x refl) (among_passing p xs n (λ i item e. some (suc i) item e))

pub walk_has : (v : EntryValue) (heap : Heap) (n : Name) → AreEntries v → name_among n (objects (items_of v heap)) ≡ (nat_lt 0 (counted v.items n) && heap_eq (home_of v.homes n.seg.0) heap)
walk_has v heap n e = among_passing (λ m. heap_eq (home_of v.homes m.seg.0) heap) v.items n e.some

-- an item's object is counted as often as the item says, at least
counted_at : (items : List Counted) (i : ℕ) (item : Counted) → slice_get items i ≡ Some item → item.count ≤ counted items item.object
counted_at [] i item e = absurd (cc)
counted_at (x ∷ xs) zero item e =
    let same : x ≡ item = cc in
    let here : adds item.object x ≡ item.count = ap (λ (y : Counted). adds item.object y) same ∙ ap (λ b. cond b item.count 0) (name_eq_refl item.object) in
    omega (arith, here)
counted_at (x ∷ xs) (suc i) item e = omega (arith, counted_at xs i item e)

few_of : (f : Name → ℕ) (xs : List Counted) → ((i : ℕ) (item : Counted) → slice_get xs i ≡ Some item → 1 ≤ f item.object) → length xs ≤ total f (objects xs)
few_of f [] some = omega arith
few_of f (x ∷ xs) some = let here = some 0 x refl in omega (arith, here, few_of f xs (λ i item e. some (suc i) item e))

pub few_items : (v : EntryValue) → AreEntries v → length v.items ≤ total (counted v.items) (objects v.items)
few_items v e = few_of (counted v.items) v.items (λ i item at. omega (arith, e.some i item at, counted_at v.items i item at))
