-- How many objects live in one segment of an area.
use Rattle.std.proofs.Common.{◌≡◌, ◌≢◌, ◌⊎◌, ◌==◌, ℕ, zero, suc, ◌+◌, ◌<◌, ◌≤◌, refl, sym, ap, subst, ◌∙◌, inl, inr, List, [], ◌∷◌, map, Option, Some, None, is_some, count_by, eq-eqb, ne_eqb, arith}
use Rattle.std.proofs.lemmas.Bool.{cases_eq}
use Rattle.std.proofs.lemmas.List.Sums.{sum_by-append, sum_by-cons}
use Rattle.k_mark.specs.k_types.State.{Object}
use Rattle.k_mark.specs.k_space.Segments.{HasRoom, IsSegment, Row, SegmentValue, living, made, object_of, objects_from, unmarked_row, unmarked_segment}
use Rattle.k_mark.specs.k_space.Areas.{segment_at}
use Rattle.k_mark.proofs.AreaRows.{number_found}
use Rattle.k_mark.proofs.GrayLists.{bit}
use Rattle.k_mark.proofs.Taken.{room_made}
use Rattle.k_mark.specs.Shown.{area_objects, objects_of_some}
use Rattle.k_mark.proofs.Lists.{some_one}
use Rattle.k_cell.specs.Holdings.{living_in}
use Rattle.k_cell.specs.Placed.{CanPlace}

module _ (k : ℕ) where
  -- the objects of the segment itself
  of_own : (serial : ℕ) (rows : List (Option Row)) → living_in k (objects_from k serial rows) ≡ count_by is_some rows
  of_own serial [] = refl
  of_own serial (None ∷ rows) = omega (arith, sum_by-cons (λ (o : Option Row). bit (is_some o)) None rows, of_own (serial + 1) rows)
  of_own serial (Some row ∷ rows) =
      let on : bit (k == k) ≡ 1 = ap bit (eq-eqb k k refl) in
      omega (
        arith,
        on,
        sum_by-cons (λ (o : Object). bit (o.name.seg.0 == k)) (object_of k serial row) (objects_from k (serial + 1) rows),
        sum_by-cons (λ (o : Option Row). bit (is_some o)) (Some row) rows,
        of_own (serial + 1) rows,
      )

  -- and of another one
  of_other : (number serial : ℕ) (rows : List (Option Row)) → number ≢ k → living_in k (objects_from number serial rows) ≡ 0
  of_other number serial [] differs = refl
  of_other number serial (None ∷ rows) differs = of_other number (serial + 1) rows differs
  of_other number serial (Some row ∷ rows) differs =
      let off : bit (number == k) ≡ 0 = ap bit (ne_eqb number k differs) in
      omega (arith, off, sum_by-cons (λ (o : Object). bit (o.name.seg.0 == k)) (object_of number serial row) (objects_from number (serial + 1) rows), of_other number (serial + 1) rows differs)

  module _ (segments : List SegmentValue) where
    joined : (n : ℕ) → living_in k (area_objects (suc n) segments) ≡ living_in k (area_objects n segments) + living_in k (objects_of_some (segment_at segments n))
    joined n = sum_by-append (λ (o : Object). bit (o.name.seg.0 == k)) (area_objects n segments) (objects_of_some (segment_at segments n))

    elsewhere : (n : ℕ) → n ≢ k → (o : Option SegmentValue) → segment_at segments n ≡ o → living_in k (objects_of_some o) ≡ 0
    elsewhere n differs None at = refl
    elsewhere n differs (Some t) at = of_other t.number 0 t.rows (λ e. differs (sym (number_found segments n t at) ∙ e))

    before : (n : ℕ) → n ≤ k → living_in k (area_objects n segments) ≡ 0
    before zero within = refl
    before (suc n) within = omega (arith, joined n, before n (omega (arith, within)), elsewhere n (λ e. omega (arith, e, within)) (segment_at segments n) refl)

    -- the objects of an area that are of one segment are those that live in it
    pub living_there : (s : SegmentValue) → segment_at segments k ≡ Some s → (n : ℕ) → k < n → living_in k (area_objects n segments) ≡ living s
    living_there s at zero within = absurd (omega (arith, within))
    living_there s at (suc n) within =
        elim (cases_eq n k) [
          | inl same ↦
              let own : s.number ≡ k = number_found segments k s at in
              let here : living_in k (objects_of_some (segment_at segments n)) ≡ living s =
              ap (λ m. living_in k (objects_of_some (segment_at segments m))) same ∙ ap (λ o. living_in k (objects_of_some o)) at ∙ ap (λ m. living_in k (objects_from m 0 s.rows)) own ∙ of_own 0 s.rows in
              omega (arith, joined n, before n (omega (arith, same)), here)
          | inr differs ↦ omega (arith, joined n, living_there s at n (omega (arith, within, differs)), elsewhere n differs (segment_at segments n) refl)
        ]

-- segments that differ in marks alone have as many objects
count_unmarked : (rows : List (Option Row)) → count_by is_some (map unmarked_row rows) ≡ count_by is_some rows
count_unmarked [] = refl
count_unmarked (None ∷ rows) =
    omega (arith, sum_by-cons (λ (o : Option Row). bit (is_some o)) None (map unmarked_row rows), sum_by-cons (λ (o : Option Row). bit (is_some o)) None rows, count_unmarked rows)
count_unmarked (Some row ∷ rows) =
    omega (arith, sum_by-cons (λ (o : Option Row). bit (is_some o)) (unmarked_row (Some row)) (map unmarked_row rows), sum_by-cons (λ (o : Option Row). bit (is_some o)) (Some row) rows, count_unmarked rows)

pub living_alike : (t s : SegmentValue) → unmarked_segment t ≡ unmarked_segment s → living t ≡ living s
living_alike t s one = sym (count_unmarked t.rows) ∙ ap (λ (y : SegmentValue). living y) one ∙ count_unmarked s.rows

-- what it says of a segment that there is room
pub room_there : (segments : List SegmentValue) (number : ℕ) (s : SegmentValue) → segment_at segments number ≡ Some s → IsSegment s → CanPlace segments number → HasRoom s
room_there segments number s at sound can =
    let one : can.segment ≡ s = some_one (sym can.there ∙ at) in
    let room : (made s < s.room) ⊎ HasRoom s = subst (λ (t : SegmentValue). (made t < t.room) ⊎ HasRoom t) one can.left in
    elim room [
      | inl few ↦ room_made s sound few
      | inr has ↦ has
    ]
