-- Sums over the segments of an area, by their numbers.
use Rattle.std.proofs.Common.{◌≡◌, ◌≢◌, not, ℕ, zero, suc, ◌+◌, ◌<◌, ◌≤◌, Bool, true, false, cond, refl, sym, ap, ap₂, ◌∙◌, inl, inr, List, [], ◌∷◌, ◌++◌, length, filter, get_or, sum_by, Option, Some, None, arith}
use Rattle.std.proofs.lemmas.Bool.{cases_eq}
use Rattle.std.proofs.lemmas.List.{length-append}
use Rattle.std.proofs.lemmas.List.Elements.{filter-append}
use Rattle.std.proofs.lemmas.List.Sums.{sum_by-cons}
use Rattle.k_laws.specs.k_types.declared.names.Name.{Name}
use Rattle.k_laws.specs.k_types.State.{Object}
use Rattle.k_laws.specs.k_types.Owners.{object_bytes}
use Rattle.k_laws.specs.k_types.Totals.{total}
use Rattle.k_laws.proofs.Sums.{total_append}
use Rattle.k_space.specs.Segments.{Row, SegmentValue, object_of, objects_from, segment_objects, segment_bytes, some_marked, is_marked}
use Rattle.k_space.specs.Areas.{AreaValue, HasDistinct, segment_at, marked_at}
use Rattle.k_mark.specs.Sweeping.{dead_row, dead_bytes_of, dead_objects, dead_bytes}
use Rattle.k_mark.specs.Shown.{area_objects, objects_of_some, HasNoneFrom, AreNumberedBelow}
use Rattle.k_mark.proofs.Found.{distinct_tail, head_gone, none_tail, found_below}
use Rattle.k_mark.proofs.Changed.{named, marked_in}
use Rattle.k_mark.proofs.KeptMarked.{at_same, at_other}

-- the sum of what is given for each number below n
abbrev below : ℕ → (ℕ → ℕ) → ℕ
below zero g = 0
below (suc n) g = below n g + g n

abbrev of_some : (SegmentValue → ℕ) → Option SegmentValue → ℕ
of_some f None = 0
of_some f (Some s) = f s

below_same : (n : ℕ) (g h : ℕ → ℕ) → ((k : ℕ) → k < n → h k ≡ g k) → below n h ≡ below n g
below_same zero g h same = refl
below_same (suc n) g h same = ap₂ (λ a b. a + b) (below_same n g h (λ k low. same k (omega (arith, low)))) (same n (omega arith))

-- where one number gives more
below_more : (n m : ℕ) (g h : ℕ → ℕ) (v : ℕ) → m < n → ((k : ℕ) → k ≢ m → h k ≡ g k) → h m ≡ g m + v → below n h ≡ below n g + v
below_more zero m g h v within others here = absurd (omega (arith, within))
below_more (suc n) m g h v within others here =
    elim (cases_eq n m) [
      | inl e ↦
          let rest : below n h ≡ below n g = below_same n g h (λ k low. others k (λ s. omega (arith, low, s, e))) in
          let last : h n ≡ g n + v = ap h e ∙ here ∙ ap (λ k. g k + v) (sym e) in
          omega (arith, rest, last)
      | inr ne ↦
          let rest : below n h ≡ below n g + v = below_more n m g h v (omega (arith, within, ne)) others here in
          let last : h n ≡ g n = others n ne in
          omega (arith, rest, last)
    ]

below_none : (n : ℕ) (g : ℕ → ℕ) → ((k : ℕ) → g k ≡ 0) → below n g ≡ 0
below_none zero g none = refl
below_none (suc n) g none = omega (arith, below_none n g none, none n)

-- a sum over segments with distinct numbers goes over the numbers
pub sum_below : (f : SegmentValue → ℕ) (segments : List SegmentValue) (bound : ℕ) → HasDistinct segments → HasNoneFrom segments bound →
    sum_by f segments ≡ below bound (λ k. of_some f (segment_at segments k))
sum_below f [] bound distinct none = sym (below_none bound (λ k. of_some f (segment_at [] k)) (λ k. refl))
sum_below f (s ∷ ss) bound distinct none =
    let rest = sum_below f ss bound (distinct_tail s ss distinct) (none_tail s ss bound none) in
    let within : s.number < bound = found_below (s ∷ ss) bound s.number s none (at_same s ss s.number refl) in
    let now : of_some f (segment_at (s ∷ ss) s.number) ≡ f s = ap (of_some f) (at_same s ss s.number refl) in
    let was : of_some f (segment_at ss s.number) ≡ 0 = ap (of_some f) (head_gone s ss distinct) in
    let here : of_some f (segment_at (s ∷ ss) s.number) ≡ of_some f (segment_at ss s.number) + f s = omega (arith, now, was) in
    let more = below_more bound s.number (λ k. of_some f (segment_at ss k)) (λ k. of_some f (segment_at (s ∷ ss) k)) (f s) within (λ k ne. ap (of_some f) (at_other s ss k (λ e. ne (sym e)))) here in
    omega (arith, sum_by-cons f s ss, rest, more)

-- what adds up over the objects of an area adds up over its segments
module _ (h : List Object → ℕ) (empty : h [] ≡ 0) (through : (xs ys : List Object) → h (xs ++ ys) ≡ h xs + h ys) (f : SegmentValue → ℕ) (segments : List SegmentValue)
    (each : (k : ℕ) (s : SegmentValue) → segment_at segments k ≡ Some s → f s ≡ h (segment_objects s)) where
  area_below : (bound : ℕ) → h (area_objects bound segments) ≡ below bound (λ k. of_some f (segment_at segments k))
  area_below zero = empty
  area_below (suc n) = through (area_objects n segments) (objects_of_some (segment_at segments n)) ∙ ap₂ (λ a b. a + b) (area_below n) (by_segment (segment_at segments n) refl)
    where
      by_segment : (o : Option SegmentValue) → segment_at segments n ≡ o → h (objects_of_some o) ≡ of_some f o
      by_segment None at = empty
      by_segment (Some s) at = sym (each n s at)

  pub summed : (bound : ℕ) → HasDistinct segments → HasNoneFrom segments bound → sum_by f segments ≡ h (area_objects bound segments)
  summed bound distinct none = sum_below f segments bound distinct none ∙ sym (area_below bound)

pub bytes_summed : (segments : List SegmentValue) (bound : ℕ) → AreNumberedBelow bound segments → total object_bytes (area_objects bound segments) ≡ sum_by segment_bytes segments
bytes_summed segments bound numbered = sym (summed (total object_bytes) refl (total_append object_bytes) segment_bytes segments (λ k s at. refl) bound numbered.distinct numbered.none)

-- rows that are not marked, and the objects that are not marked
dead_rows : (t : Name → Bool) (h : List Object → ℕ) (w : Object → ℕ) (g : Option Row → ℕ) (number : ℕ) → h [] ≡ 0 → ((o : Object) (os : List Object) → h (o ∷ os) ≡ w o + h os) → g None ≡ 0 →
    ((k : ℕ) (row : Row) → g (Some row) ≡ cond (is_marked row.color) 0 (w (object_of number k row))) → (rows : List (Option Row)) (k : ℕ) →
    ((i j : ℕ) → j ≡ k + i → t (named number j) ≡ some_marked (get_or rows i None)) →
    sum_by g rows ≡ h (filter (λ o. not (t o.name)) (objects_from number k rows))
dead_rows t h w g number empty more none some [] k is = sym empty
dead_rows t h w g number empty more none some (None ∷ rows) k is =
    omega (arith, sum_by-cons g None rows, none, dead_rows t h w g number empty more none some rows (k + 1) (λ i j e. is (suc i) j (omega (arith, e))))
dead_rows t h w g number empty more none some (Some row ∷ rows) k is =
    let rest = dead_rows t h w g number empty more none some rows (k + 1) (λ i j e. is (suc i) j (omega (arith, e))) in
    sum_by-cons g (Some row) rows ∙ by_mark rest (is_marked row.color) (some k row) (is 0 k (omega arith))
  where
    by_mark : sum_by g rows ≡ h (filter (λ o. not (t o.name)) (objects_from number (k + 1) rows)) → (b : Bool) → g (Some row) ≡ cond b 0 (w (object_of number k row)) → t (named number k) ≡ b →
        g (Some row) + sum_by g rows ≡ h (filter (λ o. not (t o.name)) (object_of number k row ∷ objects_from number (k + 1) rows))
    by_mark rest true weight e =
        let all : h (filter (λ o. not (t o.name)) (object_of number k row ∷ objects_from number (k + 1) rows)) ≡ h (filter (λ o. not (t o.name)) (objects_from number (k + 1) rows)) =
        ap (λ b. h (cond (not b) (object_of number k row ∷ filter (λ o. not (t o.name)) (objects_from number (k + 1) rows)) (filter (λ o. not (t o.name)) (objects_from number (k + 1) rows)))) e in
        omega (arith, weight, rest, all)
    by_mark rest false weight e =
        let all : h (filter (λ o. not (t o.name)) (object_of number k row ∷ objects_from number (k + 1) rows)) ≡ h (object_of number k row ∷ filter (λ o. not (t o.name)) (objects_from number (k + 1) rows)) =
        ap (λ b. h (cond (not b) (object_of number k row ∷ filter (λ o. not (t o.name)) (objects_from number (k + 1) rows)) (filter (λ o. not (t o.name)) (objects_from number (k + 1) rows)))) e in
        ap₂ (λ a b. a + b) weight rest ∙ sym (all ∙ more (object_of number k row) (filter (λ o. not (t o.name)) (objects_from number (k + 1) rows)))

pub dead_counted : (a : AreaValue) (bound : ℕ) → AreNumberedBelow bound a.segments → dead_objects a ≡ length (filter (λ o. not (marked_at a o.name)) (area_objects bound a.segments))
dead_counted a bound numbered =
    summed (λ os. length (filter (λ o. not (marked_at a o.name)) os)) refl
    (λ xs ys. ap length (filter-append (λ o. not (marked_at a o.name)) xs ys) ∙ length-append (filter (λ o. not (marked_at a o.name)) xs) (filter (λ o. not (marked_at a o.name)) ys))
    (λ (s : SegmentValue). sum_by dead_row s.rows) a.segments
    (λ k s at. dead_rows (marked_at a) length (λ o. 1) dead_row s.number refl (λ o os. omega arith) refl (λ i row. refl) s.rows 0 (marked_in a k s at))
    bound numbered.distinct numbered.none

pub dead_weighed : (a : AreaValue) (bound : ℕ) → AreNumberedBelow bound a.segments → dead_bytes a ≡ total object_bytes (filter (λ o. not (marked_at a o.name)) (area_objects bound a.segments))
dead_weighed a bound numbered =
    summed (λ os. total object_bytes (filter (λ o. not (marked_at a o.name)) os)) refl
    (λ xs ys. ap (total object_bytes) (filter-append (λ o. not (marked_at a o.name)) xs ys) ∙ total_append object_bytes (filter (λ o. not (marked_at a o.name)) xs) (filter (λ o. not (marked_at a o.name)) ys))
    (λ (s : SegmentValue). sum_by dead_bytes_of s.rows) a.segments
    (λ k s at. dead_rows (marked_at a) (total object_bytes) object_bytes dead_bytes_of s.number refl (λ o os. refl) refl (λ i row. refl) s.rows 0 (marked_in a k s at))
    bound numbered.distinct numbered.none

fewer_total : (f : Object → ℕ) (p : Object → Bool) (os : List Object) → total f (filter p os) ≤ total f os
fewer_total f p [] = omega arith
fewer_total f p (o ∷ os) = by_test (fewer_total f p os) (p o)
  where
    by_test : total f (filter p os) ≤ total f os → (b : Bool) → total f (cond b (o ∷ filter p os) (filter p os)) ≤ f o + total f os
    by_test rest true = omega (arith, rest)
    by_test rest false = omega (arith, rest)

fewer : (p : Object → Bool) (os : List Object) → length (filter p os) ≤ length os
fewer p [] = omega arith
fewer p (o ∷ os) = by_test (fewer p os) (p o)
  where
    by_test : length (filter p os) ≤ length os → (b : Bool) → length (cond b (o ∷ filter p os) (filter p os)) ≤ suc (length os)
    by_test rest true = omega (arith, rest)
    by_test rest false = omega (arith, rest)

pub dead_most : (a : AreaValue) (bound : ℕ) → AreNumberedBelow bound a.segments → dead_objects a ≤ length (area_objects bound a.segments)
dead_most a bound numbered = omega (arith, dead_counted a bound numbered, fewer (λ o. not (marked_at a o.name)) (area_objects bound a.segments))

pub dead_bytes_most : (a : AreaValue) (bound : ℕ) → AreNumberedBelow bound a.segments → dead_bytes a ≤ total object_bytes (area_objects bound a.segments)
dead_bytes_most a bound numbered = omega (arith, dead_weighed a bound numbered, fewer_total object_bytes (λ o. not (marked_at a o.name)) (area_objects bound a.segments))

-- there are as many segments as numbers that have one
at_most_one : (o : Option SegmentValue) → of_some (λ s. 1) o ≤ 1
at_most_one None = omega arith
at_most_one (Some s) = omega arith

below_most : (n : ℕ) (g : ℕ → ℕ) → ((k : ℕ) → g k ≤ 1) → below n g ≤ n
below_most zero g one = omega arith
below_most (suc n) g one = omega (arith, below_most n g one, one n)

below_fewer : (n m : ℕ) (g : ℕ → ℕ) → ((k : ℕ) → g k ≤ 1) → m < n → g m ≡ 0 → below n g < n
below_fewer zero m g one within none = absurd (omega (arith, within))
below_fewer (suc n) m g one within none =
    elim (cases_eq n m) [
      | inl e ↦ let last : g n ≡ 0 = ap g e ∙ none in omega (arith, below_most n g one, last)
      | inr ne ↦ omega (arith, below_fewer n m g one (omega (arith, within, ne)) none, one n)
    ]

ones : (segments : List SegmentValue) → sum_by (λ (s : SegmentValue). 1) segments ≡ length segments
ones [] = refl
ones (s ∷ ss) = omega (arith, sum_by-cons (λ (t : SegmentValue). 1) s ss, ones ss)

pub segments_most : (segments : List SegmentValue) (bound : ℕ) → AreNumberedBelow bound segments → length segments ≤ bound
segments_most segments bound numbered =
    omega (arith, ones segments, sum_below (λ (s : SegmentValue). 1) segments bound numbered.distinct numbered.none, below_most bound (λ k. of_some (λ s. 1) (segment_at segments k)) (λ k. at_most_one (segment_at segments k)))

pub segments_fewer : (segments : List SegmentValue) (bound k : ℕ) → AreNumberedBelow bound segments → k < bound → segment_at segments k ≡ None → length segments < bound
segments_fewer segments bound k numbered within gone =
    omega (
      arith,
      ones segments,
      sum_below (λ (s : SegmentValue). 1) segments bound numbered.distinct numbered.none,
      below_fewer bound k (λ k. of_some (λ s. 1) (segment_at segments k)) (λ k. at_most_one (segment_at segments k)) within (ap (of_some (λ s. 1)) gone),
    )
