-- Objects of one segment put in their places among those of an area.
use Rattle.std.proofs.Common.{◌≡◌, ◌≢◌, ◌==◌, not, ℕ, zero, suc, ◌+◌, ◌<◌, ◌≤◌, Bool, true, false, cond, refl, sym, ap, ap₂, subst, ◌∙◌, inl, inr, List, [], ◌∷◌, ◌++◌, length, filter, Option, Some, None, IsTrue, eq-eqb, ne_eqb, arith}
use Rattle.std.proofs.lemmas.Bool.{cases_eq}
use Rattle.std.proofs.lemmas.List.Elements.{filter-append}
use Rattle.k_exit.proofs.Ordered.{IsBefore, ordered_before, ordered_tail}
use Rattle.k_laws.specs.k_types.declared.names.Name.{Name}
use Rattle.k_laws.specs.k_types.Names.{name_lt}
use Rattle.k_laws.specs.k_types.State.{Object}
use Rattle.k_laws.specs.k_types.Sound.{IsOrdered, IsOrderedFrom}
use Rattle.k_laws.specs.k_types.Updates.{with_object}
use Rattle.k_laws.specs.CellChanges.{with_objects}
use Rattle.k_laws.proofs.Merged.{placed_first}
use Rattle.k_space.specs.Objects.{BodyValue}
use Rattle.k_space.specs.Segments.{Row, SegmentValue, object_of, objects_from, segment_objects, placed, new_row}
use Rattle.k_space.specs.Areas.{AreaValue, segment_at, with_segment}
use Rattle.k_space.proofs.AreaRows.{number_found}
use Rattle.k_mark.specs.Shown.{area_objects, objects_of_some, HasNoneFrom, IsTakenOut}
use Rattle.k_mark.proofs.Shown.{placed_objects}
use Rattle.k_mark.proofs.Found.{at_push_same, at_push_other, at_set_same, at_set_other, found_below}
use Rattle.k_mark.proofs.Changed.{changed_area}
use Rattle.k_laws.proofs.NameTests.{by_segment_lt, by_serial_lt}

-- all of the list come before the object
abbrev AreBefore : List Object → Object → Type 0
AreBefore [] o = Unit {0}
AreBefore (x ∷ xs) o = IsTrue (name_lt x.name o.name) × AreBefore xs o

before_append : (xs ys : List Object) (o : Object) → AreBefore xs o → AreBefore ys o → AreBefore (xs ++ ys) o
before_append [] ys o t u = u
before_append (x ∷ xs) ys o t u = (t.0, before_append xs ys o t.1 u)

-- each of the second list comes after all of the first, or before all of it
abbrev AreLater : List Object → List Object → Type 0
AreLater xs [] = Unit {0}
AreLater xs (o ∷ more) = AreBefore xs o × AreLater xs more

abbrev AreFirst : List Object → List Object → Type 0
AreFirst xs [] = Unit {0}
AreFirst xs (o ∷ more) = IsBefore o xs × AreFirst xs more

-- the objects are of that segment
abbrev AreOf : ℕ → List Object → Type 0
AreOf number [] = Unit {0}
AreOf number (o ∷ more) = (o.name.seg.0 ≡ number) × AreOf number more

past : (xs more : List Object) (o : Object) → AreBefore xs o → IsBefore o more → with_object o (xs ++ more) ≡ xs ++ o ∷ more
past [] more o t u = placed_first o more u
past (x ∷ xs) more o t u = ap (λ b. cond b (x ∷ with_object o (xs ++ more)) (o ∷ x ∷ xs ++ more)) t.0 ∙ ap (λ ys. x ∷ ys) (past xs more o t.1 u)

no_more : (xs : List Object) → xs ++ [] ≡ xs
no_more [] = refl
no_more (x ∷ xs) = ap (λ ys. x ∷ ys) (no_more xs)

joined_up : (xs ys zs : List Object) → (xs ++ ys) ++ zs ≡ xs ++ (ys ++ zs)
joined_up [] ys zs = refl
joined_up (x ∷ xs) ys zs = ap (λ us. x ∷ us) (joined_up xs ys zs)

-- objects in order that come after all of a list come last
placed_last : (xs more : List Object) → AreLater xs more → IsOrdered more → with_objects more xs ≡ xs ++ more
placed_last xs [] t ordered = sym (no_more xs)
placed_last xs (o ∷ more) t ordered = ap (with_object o) (placed_last xs more t.1 (ordered_tail o.name more ordered)) ∙ past xs more o t.0 (ordered_before o more ordered)

placed_within_one : (o : Object) (xs ys : List Object) → IsBefore o ys → with_object o (xs ++ ys) ≡ with_object o xs ++ ys
placed_within_one o [] ys t = placed_first o ys t
placed_within_one o (x ∷ xs) ys t = by_test (placed_within_one o xs ys t) (name_lt x.name o.name)
  where
    by_test : with_object o (xs ++ ys) ≡ with_object o xs ++ ys → (b : Bool) → cond b (x ∷ with_object o (xs ++ ys)) (o ∷ x ∷ xs ++ ys) ≡ cond b (x ∷ with_object o xs) (o ∷ x ∷ xs) ++ ys
    by_test rest true = ap (λ zs. x ∷ zs) rest
    by_test rest false = refl

-- objects that come before all of the rest are placed among those before it
placed_within : (more xs ys : List Object) → AreFirst ys more → with_objects more (xs ++ ys) ≡ with_objects more xs ++ ys
placed_within [] xs ys t = refl
placed_within (o ∷ more) xs ys t = ap (with_object o) (placed_within more xs ys t.1) ∙ placed_within_one o (with_objects more xs) ys t.0

-- where the objects of segments stand
rows_before : (number : ℕ) (rows : List (Option Row)) (k : ℕ) (o : Object) → number < o.name.seg.0 → AreBefore (objects_from number k rows) o
rows_before number [] k o low = tt
rows_before number (None ∷ rows) k o low = rows_before number rows (k + 1) o low
rows_before number (Some row ∷ rows) k o low = (by_segment_lt (object_of number k row).name o.name low, rows_before number rows (k + 1) o low)

rows_after : (number : ℕ) (rows : List (Option Row)) (k : ℕ) (o : Object) → o.name.seg.0 < number → IsBefore o (objects_from number k rows)
rows_after number [] k o low = tt
rows_after number (None ∷ rows) k o low = rows_after number rows (k + 1) o low
rows_after number (Some row ∷ rows) k o low = (by_segment_lt o.name (object_of number k row).name low, rows_after number rows (k + 1) o low)

serials_before : (number : ℕ) (rows : List (Option Row)) (k : ℕ) (o : Object) → number ≡ o.name.seg.0 → k + length rows ≤ o.name.serial.0 → AreBefore (objects_from number k rows) o
serials_before number [] k o same low = tt
serials_before number (None ∷ rows) k o same low = serials_before number rows (k + 1) o same (omega (arith, low))
serials_before number (Some row ∷ rows) k o same low =
    (by_serial_lt (object_of number k row).name o.name same (omega (arith, low)), serials_before number rows (k + 1) o same (omega (arith, low)))

rows_of : (number : ℕ) (rows : List (Option Row)) (k : ℕ) → AreOf number (objects_from number k rows)
rows_of number [] k = tt
rows_of number (None ∷ rows) k = rows_of number rows (k + 1)
rows_of number (Some row ∷ rows) k = (refl, rows_of number rows (k + 1))

rows_ordered_from : (number : ℕ) (rows : List (Option Row)) (k : ℕ) (n : Name) → n.seg.0 ≡ number → n.serial.0 < k → IsOrderedFrom n (objects_from number k rows)
rows_ordered_from number [] k n same low = tt
rows_ordered_from number (None ∷ rows) k n same low = rows_ordered_from number rows (k + 1) n same (omega (arith, low))
rows_ordered_from number (Some row ∷ rows) k n same low =
    (by_serial_lt n (object_of number k row).name same low, rows_ordered_from number rows (k + 1) (object_of number k row).name refl (omega arith))

rows_ordered : (number : ℕ) (rows : List (Option Row)) (k : ℕ) → IsOrdered (objects_from number k rows)
rows_ordered number [] k = tt
rows_ordered number (None ∷ rows) k = rows_ordered number rows (k + 1)
rows_ordered number (Some row ∷ rows) k = rows_ordered_from number rows (k + 1) (object_of number k row).name refl (omega arith)

some_before : (segments : List SegmentValue) (k : ℕ) (o : Object) → k < o.name.seg.0 → AreBefore (objects_of_some (segment_at segments k)) o
some_before segments k o low = by_segment (segment_at segments k) refl
  where
    by_segment : (x : Option SegmentValue) → segment_at segments k ≡ x → AreBefore (objects_of_some x) o
    by_segment None e = tt
    by_segment (Some s) e = rows_before s.number s.rows 0 o (omega (arith, low, number_found segments k s e))

some_after : (segments : List SegmentValue) (k : ℕ) (o : Object) → o.name.seg.0 < k → IsBefore o (objects_of_some (segment_at segments k))
some_after segments k o low = by_segment (segment_at segments k) refl
  where
    by_segment : (x : Option SegmentValue) → segment_at segments k ≡ x → IsBefore o (objects_of_some x)
    by_segment None e = tt
    by_segment (Some s) e = rows_after s.number s.rows 0 o (omega (arith, low, number_found segments k s e))

area_before : (segments : List SegmentValue) (n : ℕ) (o : Object) → n ≤ o.name.seg.0 → AreBefore (area_objects n segments) o
area_before segments zero o low = tt
area_before segments (suc n) o low =
    before_append (area_objects n segments) (objects_of_some (segment_at segments n)) o (area_before segments n o (omega (arith, low))) (some_before segments n o (omega (arith, low)))

later_in_area : (segments : List SegmentValue) (m : ℕ) (more : List Object) → AreOf m more → AreLater (objects_of_some (segment_at segments m)) more →
    AreLater (area_objects m segments ++ objects_of_some (segment_at segments m)) more
later_in_area segments m [] of later = tt
later_in_area segments m (o ∷ more) of later =
    (before_append (area_objects m segments) (objects_of_some (segment_at segments m)) o (area_before segments m o (omega (arith, of.0))) later.0, later_in_area segments m more of.1 later.1)

first_of_later : (segments : List SegmentValue) (m k : ℕ) (more : List Object) → m < k → AreOf m more → AreFirst (objects_of_some (segment_at segments k)) more
first_of_later segments m k [] low of = tt
first_of_later segments m k (o ∷ more) low of = (some_after segments k o (omega (arith, low, of.0)), first_of_later segments m k more low of.1)

-- an area whose segment of that number has more objects, which come after those that it had
module _ (xs ys : List SegmentValue) (m : ℕ) (more : List Object) (others : (k : ℕ) → k ≢ m → segment_at ys k ≡ segment_at xs k)
    (here : objects_of_some (segment_at ys m) ≡ objects_of_some (segment_at xs m) ++ more) (of : AreOf m more)
    (later : AreLater (objects_of_some (segment_at xs m)) more) (ordered : IsOrdered more) where
  same_below : (n : ℕ) → n ≤ m → area_objects n ys ≡ area_objects n xs
  same_below zero low = refl
  same_below (suc n) low = ap₂ (λ us vs. us ++ vs) (same_below n (omega (arith, low))) (ap objects_of_some (others n (λ e. omega (arith, low, e))))

  pub joined : (bound : ℕ) → m < bound → area_objects bound ys ≡ with_objects more (area_objects bound xs)
  joined zero within = absurd (omega (arith, within))
  joined (suc n) within =
      elim (cases_eq n m) [
        | inl same ↦
            ap₂ (λ us k. us ++ objects_of_some (segment_at ys k)) (same_below n (omega (arith, same))) same
            ∙ ap₂ (λ k vs. area_objects k xs ++ vs) same here
            ∙ sym (joined_up (area_objects m xs) (objects_of_some (segment_at xs m)) more)
            ∙ sym (placed_last (area_objects m xs ++ objects_of_some (segment_at xs m)) more (later_in_area xs m more of later) ordered)
            ∙ ap (λ k. with_objects more (area_objects k xs ++ objects_of_some (segment_at xs k))) (sym same)
        | inr differs ↦
            ap₂ (λ us vs. us ++ vs) (joined n (omega (arith, within, differs))) (ap objects_of_some (others n differs))
            ∙ sym (placed_within more (area_objects n xs) (objects_of_some (segment_at xs n)) (first_of_later xs m n more (omega (arith, within, differs)) of))
      ]

-- one object more
pub placed_area : (a : AreaValue) (bound : ℕ) (s : SegmentValue) (slot : ℕ) (body : BodyValue) → HasNoneFrom a.segments bound → segment_at a.segments s.number ≡ Some s →
    area_objects bound (with_segment a s.number (placed s slot body)).segments ≡ with_object (object_of s.number (length s.rows) (new_row slot body)) (area_objects bound a.segments)
placed_area a bound s slot body none at =
    joined a.segments (with_segment a s.number (placed s slot body)).segments s.number (object_of s.number (length s.rows) (new_row slot body) ∷ [])
    (at_set_other a.segments s.number s (placed s slot body) at refl)
    (ap objects_of_some (at_set_same a.segments s.number s (placed s slot body) at refl) ∙ placed_objects s slot body
    ∙ sym (ap (λ (o : Option SegmentValue). objects_of_some o ++ object_of s.number (length s.rows) (new_row slot body) ∷ []) at))
    (refl, tt) (
      subst (λ (o : Option SegmentValue). AreBefore (objects_of_some o) (object_of s.number (length s.rows) (new_row slot body))) (sym at)
          (serials_before s.number s.rows 0 (object_of s.number (length s.rows) (new_row slot body)) refl (omega arith)),
      tt,
    )
    tt bound (found_below a.segments bound s.number s none at)

none_later : (more : List Object) → AreLater [] more
none_later [] = tt
none_later (o ∷ more) = (tt, none_later more)

-- one segment more
pub parted_area : (old new : List SegmentValue) (bound : ℕ) (s : SegmentValue) → IsTakenOut bound old new s →
    area_objects bound old ≡ with_objects (segment_objects s) (area_objects bound new)
parted_area old new bound s out =
    joined new old s.number (segment_objects s) (λ k ne. sym (out.others k ne))
    (ap objects_of_some out.there ∙ sym (ap (λ (o : Option SegmentValue). objects_of_some o ++ segment_objects s) out.gone))
    (rows_of s.number s.rows 0)
    (subst (λ (o : Option SegmentValue). AreLater (objects_of_some o) (segment_objects s)) (sym out.gone) (none_later (segment_objects s)))
    (rows_ordered s.number s.rows 0) bound out.below

pub joined_area : (segments : List SegmentValue) (bound : ℕ) (s : SegmentValue) → s.number < bound → segment_at segments s.number ≡ None →
    area_objects bound (segments ++ s ∷ []) ≡ with_objects (segment_objects s) (area_objects bound segments)
joined_area segments bound s within none =
    parted_area (segments ++ s ∷ []) segments bound s (record { below = within; there = at_push_same segments s none; gone = none; others = λ k ne. sym (at_push_other segments s k (λ e. ne (sym e))) })

pub none_area : (bound : ℕ) → area_objects bound [] ≡ []
none_area zero = refl
none_area (suc n) = ap (λ us. us ++ []) (none_area n)

alone_placed : (more : List Object) → IsOrdered more → with_objects more [] ≡ more
alone_placed more ordered = placed_last [] more (none_later more) ordered

pub alone_area : (bound : ℕ) (s : SegmentValue) → s.number < bound → area_objects bound (s ∷ []) ≡ segment_objects s
alone_area bound s within =
    joined_area [] bound s within refl ∙ ap (with_objects (segment_objects s)) (none_area bound) ∙ alone_placed (segment_objects s) (rows_ordered s.number s.rows 0)

-- what is left without a segment
all_gone : (number seg : ℕ) (rows : List (Option Row)) (k : ℕ) → number ≡ seg → filter (λ (o : Object). not (o.name.seg.0 == seg)) (objects_from number k rows) ≡ []
all_gone number seg [] k same = refl
all_gone number seg (None ∷ rows) k same = all_gone number seg rows (k + 1) same
all_gone number seg (Some row ∷ rows) k same =
    ap (λ b. cond (not b) (object_of number k row ∷ filter (λ (o : Object). not (o.name.seg.0 == seg)) (objects_from number (k + 1) rows)) (filter (λ (o : Object). not (o.name.seg.0 == seg)) (objects_from number (k + 1) rows))) (eq-eqb number seg same)
    ∙ all_gone number seg rows (k + 1) same

all_stay : (number seg : ℕ) (rows : List (Option Row)) (k : ℕ) → number ≢ seg → filter (λ (o : Object). not (o.name.seg.0 == seg)) (objects_from number k rows) ≡ objects_from number k rows
all_stay number seg [] k ne = refl
all_stay number seg (None ∷ rows) k ne = all_stay number seg rows (k + 1) ne
all_stay number seg (Some row ∷ rows) k ne =
    ap (λ b. cond (not b) (object_of number k row ∷ filter (λ (o : Object). not (o.name.seg.0 == seg)) (objects_from number (k + 1) rows)) (filter (λ (o : Object). not (o.name.seg.0 == seg)) (objects_from number (k + 1) rows))) (ne_eqb number seg ne)
    ∙ ap (λ os. object_of number k row ∷ os) (all_stay number seg rows (k + 1) ne)

without_area : (old new : List SegmentValue) (bound seg : ℕ) → segment_at new seg ≡ None → ((number : ℕ) → number ≢ seg → segment_at new number ≡ segment_at old number) →
    area_objects bound new ≡ filter (λ o. not (o.name.seg.0 == seg)) (area_objects bound old)
without_area old new bound seg none others =
    changed_area (filter (λ o. not (o.name.seg.0 == seg))) refl (filter-append (λ o. not (o.name.seg.0 == seg))) old new each bound
  where
    each : (k : ℕ) → objects_of_some (segment_at new k) ≡ filter (λ o. not (o.name.seg.0 == seg)) (objects_of_some (segment_at old k))
    each k =
        elim (cases_eq k seg) [
          | inl same ↦ ap objects_of_some (ap (segment_at new) same ∙ none) ∙ sym (gone same (segment_at old k) refl)
          | inr differs ↦ ap objects_of_some (others k differs) ∙ sym (stay differs (segment_at old k) refl)
        ]
      where
        gone : k ≡ seg → (o : Option SegmentValue) → segment_at old k ≡ o → filter (λ o. not (o.name.seg.0 == seg)) (objects_of_some o) ≡ []
        gone same None e = refl
        gone same (Some s) e = all_gone s.number seg s.rows 0 (number_found old k s e ∙ same)

        stay : k ≢ seg → (o : Option SegmentValue) → segment_at old k ≡ o → filter (λ o. not (o.name.seg.0 == seg)) (objects_of_some o) ≡ objects_of_some o
        stay differs None e = refl
        stay differs (Some s) e = all_stay s.number seg s.rows 0 (λ n. differs (sym (number_found old k s e) ∙ n))

pub left_area : (old new : List SegmentValue) (bound : ℕ) (s : SegmentValue) → IsTakenOut bound old new s →
    area_objects bound new ≡ filter (λ o. not (o.name.seg.0 == s.number)) (area_objects bound old)
left_area old new bound s out = without_area old new bound s.number out.gone out.others

-- the objects of an area are in order
from_first : (x : Object) (xs ys : List Object) → AreLater (x ∷ xs) ys → IsOrdered ys → IsOrderedFrom x.name ys
from_first x xs [] later ordered = tt
from_first x xs (y ∷ ys) later ordered = (later.0.0, ordered)

later_rest : (x : Object) (xs ys : List Object) → AreLater (x ∷ xs) ys → AreLater xs ys
later_rest x xs [] later = tt
later_rest x xs (y ∷ ys) later = (later.0.1, later_rest x xs ys later.1)

appended_ordered_from : (n : Name) (xs ys : List Object) → IsOrderedFrom n xs → IsOrderedFrom n ys → AreLater xs ys → IsOrdered ys → IsOrderedFrom n (xs ++ ys)
appended_ordered_from n [] ys t u later ordered = u
appended_ordered_from n (x ∷ xs) ys t u later ordered = (t.0, appended_ordered_from x.name xs ys t.1 (from_first x xs ys later ordered) (later_rest x xs ys later) ordered)

appended_ordered : (xs ys : List Object) → IsOrdered xs → IsOrdered ys → AreLater xs ys → IsOrdered (xs ++ ys)
appended_ordered [] ys t ordered later = ordered
appended_ordered (x ∷ xs) ys t ordered later = appended_ordered_from x.name xs ys t (from_first x xs ys later ordered) (later_rest x xs ys later) ordered

later_than_area : (segments : List SegmentValue) (n : ℕ) (ys : List Object) → AreOf n ys → AreLater (area_objects n segments) ys
later_than_area segments n [] of = tt
later_than_area segments n (o ∷ ys) of = (area_before segments n o (omega (arith, of.0)), later_than_area segments n ys of.1)

pub area_ordered : (segments : List SegmentValue) (bound : ℕ) → IsOrdered (area_objects bound segments)
area_ordered segments zero = tt
area_ordered segments (suc n) = by_segment (area_ordered segments n) (segment_at segments n) refl
  where
    by_segment : IsOrdered (area_objects n segments) → (o : Option SegmentValue) → segment_at segments n ≡ o → IsOrdered (area_objects n segments ++ objects_of_some o)
    by_segment rest None e = appended_ordered (area_objects n segments) [] rest tt tt
    by_segment rest (Some s) e =
        let number = number_found segments n s e in
        appended_ordered (area_objects n segments) (segment_objects s) rest (rows_ordered s.number s.rows 0)
        (later_than_area segments n (segment_objects s) (subst (λ k. AreOf k (segment_objects s)) number (rows_of s.number s.rows 0)))
