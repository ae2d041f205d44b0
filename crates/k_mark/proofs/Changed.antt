-- An area of which each segment's objects are changed in one way.
use Rattle.std.proofs.Common.{◌≡◌, ◌≢◌, ℕ, zero, suc, ◌+◌, Bool, true, false, cond, refl, sym, ap, ap₂, ◌∙◌, inl, inr, List, [], ◌∷◌, ◌++◌, map, filter, get_or, set, slice_set, Option, Some, None, option_map, arith}
use Rattle.std.proofs.lemmas.Bool.{cases_eq, false_from_ne_true}
use Rattle.std.proofs.lemmas.List.{map-append}
use Rattle.std.proofs.lemmas.List.Elements.{filter-append}
use Rattle.k_laws.specs.k_types.declared.names.Name.{Name}
use Rattle.k_laws.specs.k_types.Names.{name_eq}
use Rattle.k_laws.specs.k_types.State.{Object, Content}
use Rattle.k_laws.specs.k_types.Updates.{object_after_write}
use Rattle.k_space.specs.Segments.{Row, Color, Black, SegmentValue, object_of, objects_from, segment_objects, row_at, with_row, some_marked, is_marked, gray_or_black, unmarked_segment}
use Rattle.k_space.specs.Areas.{AreaValue, place_of, segment_at, row_in_segment, row_of_name, with_row_of, marked_at, unmarked, grayed, grayed_row, IsBlackened}
use Rattle.k_space.proofs.AreaRows.{number_found, found, changed_is}
use Rattle.k_laws.proofs.NameTests.{name_eq-true}
use Rattle.k_mark.specs.Sweeping.{survivor, swept_segment, swept}
use Rattle.k_mark.specs.Shown.{area_objects, objects_of_some}
use Rattle.k_mark.proofs.Shown.{written_objects, recolored_objects, unmarked_objects}
use Rattle.k_mark.proofs.Found.{at_map, at_set_same, at_set_other}

abbrev pub named : ℕ → ℕ → Name
named seg serial = record { seg = record { 0 = seg }; serial = record { 0 = serial } }

-- a change that goes through the list goes through the area
pub changed_area : (f : List Object → List Object) → f [] ≡ [] → ((xs ys : List Object) → f (xs ++ ys) ≡ f xs ++ f ys) → (xs ys : List SegmentValue) →
    ((k : ℕ) → objects_of_some (segment_at ys k) ≡ f (objects_of_some (segment_at xs k))) → (bound : ℕ) → area_objects bound ys ≡ f (area_objects bound xs)
changed_area f empty through xs ys each zero = sym empty
changed_area f empty through xs ys each (suc n) =
    ap₂ (λ us vs. us ++ vs) (changed_area f empty through xs ys each n) (each n) ∙ sym (through (area_objects n xs) (objects_of_some (segment_at xs n)))

-- what passes by its name, of rows without those that are not marked
swept_rows : (t : Name → Bool) (number : ℕ) (rows : List (Option Row)) (k : ℕ) → ((i j : ℕ) → j ≡ k + i → t (named number j) ≡ some_marked (get_or rows i None)) →
    objects_from number k (map survivor rows) ≡ filter (λ o. t o.name) (objects_from number k rows)
swept_rows t number [] k is = refl
swept_rows t number (None ∷ rows) k is = swept_rows t number rows (k + 1) (λ i j e. is (suc i) j (omega (arith, e)))
swept_rows t number (Some row ∷ rows) k is =
    let rest = swept_rows t number rows (k + 1) (λ i j e. is (suc i) j (omega (arith, e))) in
    by_mark rest (is_marked row.color) (is 0 k (omega arith))
  where
    by_mark : objects_from number (k + 1) (map survivor rows) ≡ filter (λ o. t o.name) (objects_from number (k + 1) rows) → (b : Bool) → t (named number k) ≡ b →
        objects_from number k (cond b (Some row) None ∷ map survivor rows) ≡ filter (λ o. t o.name) (object_of number k row ∷ objects_from number (k + 1) rows)
    by_mark rest true e =
        ap (λ os. object_of number k row ∷ os) rest
        ∙ sym (ap (λ b. cond b (object_of number k row ∷ filter (λ o. t o.name) (objects_from number (k + 1) rows)) (filter (λ o. t o.name) (objects_from number (k + 1) rows))) e)
    by_mark rest false e =
        rest
        ∙ sym (ap (λ b. cond b (object_of number k row ∷ filter (λ o. t o.name) (objects_from number (k + 1) rows)) (filter (λ o. t o.name) (objects_from number (k + 1) rows))) e)

-- the mark of a name in a segment that is found
pub marked_in : (a : AreaValue) (k : ℕ) (s : SegmentValue) → segment_at a.segments k ≡ Some s → (i j : ℕ) → j ≡ 0 + i → marked_at a (named s.number j) ≡ some_marked (get_or s.rows i None)
marked_in a k s at i j e =
    let same : j ≡ i = omega (arith, e) in
    ap₂ (λ m (x : Option SegmentValue). some_marked (row_in_segment x m)) same (ap (segment_at a.segments) (number_found a.segments k s at) ∙ at)

-- what is left of an area after sweeping
pub swept_objects : (a : AreaValue) (bound : ℕ) → area_objects bound (swept a).segments ≡ filter (λ o. marked_at a o.name) (area_objects bound a.segments)
swept_objects a bound =
    changed_area (filter (λ o. marked_at a o.name)) refl (filter-append (λ o. marked_at a o.name)) a.segments (map swept_segment a.segments) each bound
  where
    each : (k : ℕ) → objects_of_some (segment_at (map swept_segment a.segments) k) ≡ filter (λ o. marked_at a o.name) (objects_of_some (segment_at a.segments k))
    each k = ap objects_of_some (at_map swept_segment (λ s. refl) a.segments k) ∙ by_segment (segment_at a.segments k) refl
      where
        by_segment : (o : Option SegmentValue) → segment_at a.segments k ≡ o → objects_of_some (option_map swept_segment o) ≡ filter (λ o. marked_at a o.name) (objects_of_some o)
        by_segment None at = refl
        by_segment (Some s) at = swept_rows (marked_at a) s.number s.rows 0 (marked_in a k s at)

same_list : (os : List Object) → map (λ (o : Object). o) os ≡ os
same_list [] = refl
same_list (o ∷ os) = ap (λ ps. o ∷ ps) (same_list os)

-- one object of the area changed
module _ (f : List Object → List Object) (empty : f [] ≡ []) (through : (xs ys : List Object) → f (xs ++ ys) ≡ f xs ++ f ys) (a : AreaValue) (n : Name) (row new : Row)
    (there : row_of_name a.segments n ≡ Some row)
    (here : (s : SegmentValue) → s.number ≡ n.seg.0 → row_at s n.serial.0 ≡ Some row → segment_objects (with_row s n.serial.0 (Some new)) ≡ f (segment_objects s))
    (elsewhere : (s : SegmentValue) → s.number ≢ n.seg.0 → f (segment_objects s) ≡ segment_objects s) where
  pub row_changed : (bound : ℕ) → area_objects bound (with_row_of a n (Some new)).segments ≡ f (area_objects bound a.segments)
  row_changed bound =
      let g = found a n row there in
      ap (area_objects bound) (changed_is a n row new g)
      ∙ changed_area f empty through a.segments (set a.segments (place_of a.segments n.seg.0) (with_row g.space n.serial.0 (Some new)))
      (each g.space g.at g.there) bound
    where
      each : (s : SegmentValue) → segment_at a.segments n.seg.0 ≡ Some s → row_at s n.serial.0 ≡ Some row → (k : ℕ) →
          objects_of_some (segment_at (set a.segments (place_of a.segments n.seg.0) (with_row s n.serial.0 (Some new))) k) ≡ f (objects_of_some (segment_at a.segments k))
      each s at row_there k =
          elim (cases_eq k n.seg.0) [
            | inl same ↦
                ap (λ m. objects_of_some (segment_at (set a.segments (place_of a.segments n.seg.0) (with_row s n.serial.0 (Some new))) m)) same
                ∙ ap objects_of_some (at_set_same a.segments n.seg.0 s (with_row s n.serial.0 (Some new)) at (number_found a.segments n.seg.0 s at))
                ∙ here s (number_found a.segments n.seg.0 s at) row_there
                ∙ sym (ap (λ o. f (objects_of_some o)) (ap (segment_at a.segments) same ∙ at))
            | inr differs ↦
                ap objects_of_some (at_set_other a.segments n.seg.0 s (with_row s n.serial.0 (Some new)) at (number_found a.segments n.seg.0 s at) k differs)
                ∙ sym (others differs (segment_at a.segments k) refl)
          ]
        where
          others : k ≢ n.seg.0 → (o : Option SegmentValue) → segment_at a.segments k ≡ o → f (objects_of_some o) ≡ objects_of_some o
          others differs None e = empty
          others differs (Some t) e = elsewhere t (λ m. differs (sym (number_found a.segments k t e) ∙ m))

-- a write leaves the objects of other segments
kept_elsewhere : (n : Name) (field : ℕ) (content : Content) (number : ℕ) (rows : List (Option Row)) (k : ℕ) → number ≢ n.seg.0 → map (object_after_write n field content) (objects_from number k rows) ≡ objects_from number k rows
kept_elsewhere n field content number [] k ne = refl
kept_elsewhere n field content number (None ∷ rows) k ne = kept_elsewhere n field content number rows (k + 1) ne
kept_elsewhere n field content number (Some row ∷ rows) k ne =
    let off : name_eq (named number k) n ≡ false = false_from_ne_true (name_eq (named number k) n) (λ e. ne (ap (λ (m : Name). m.seg.0) (name_eq-true (named number k) n e))) in
    ap₂ (λ (o : Object) os. o ∷ os)
    (ap (λ b. cond b (object_of number k (record row { fields = slice_set row.fields field content })) (object_of number k row)) off)
    (kept_elsewhere n field content number rows (k + 1) ne)

-- a write of one field
pub written_area : (a : AreaValue) (bound : ℕ) (n : Name) (row : Row) (field : ℕ) (content : Content) → row_of_name a.segments n ≡ Some row →
    area_objects bound (with_row_of a n (Some (record row { fields = slice_set row.fields field content }))).segments ≡ map (object_after_write n field content) (area_objects bound a.segments)
written_area a bound n row field content there =
    row_changed (map (object_after_write n field content)) refl (map-append (object_after_write n field content)) a n row (record row { fields = slice_set row.fields field content }) there
    (λ s number at. written_objects s n.serial.0 row field content at ∙ ap (λ m. map (object_after_write (named m n.serial.0) field content) (segment_objects s)) number)
    (λ s ne. kept_elsewhere n field content s.number s.rows 0 ne) bound

-- another mark
pub recolored_area : (a : AreaValue) (bound : ℕ) (n : Name) (row : Row) (c : Color) → row_of_name a.segments n ≡ Some row →
    area_objects bound (with_row_of a n (Some (record row { color = c }))).segments ≡ area_objects bound a.segments
recolored_area a bound n row c there =
    row_changed (λ os. os) refl (λ xs ys. refl) a n row (record row { color = c }) there (λ s number at. recolored_objects s n.serial.0 row c at) (λ s ne. refl) bound

pub grayed_area : (a : AreaValue) (bound : ℕ) (n : Name) → area_objects bound (grayed a n).segments ≡ area_objects bound a.segments
grayed_area a bound n = by_row (row_of_name a.segments n) refl
  where
    by_row : (o : Option Row) → row_of_name a.segments n ≡ o → area_objects bound (grayed_row a n o).segments ≡ area_objects bound a.segments
    by_row None e = refl
    by_row (Some row) e = recolored_area a bound n row (gray_or_black row.color) e

pub blackened_area : (old new : AreaValue) (bound : ℕ) (n : Name) → IsBlackened old new n → area_objects bound new.segments ≡ area_objects bound old.segments
blackened_area old new bound n b = ap (λ (a : AreaValue). area_objects bound a.segments) b.now ∙ recolored_area old bound n b.row Black b.there

pub unmarked_area : (a : AreaValue) (bound : ℕ) → area_objects bound (unmarked a).segments ≡ area_objects bound a.segments
unmarked_area a bound = changed_area (λ os. os) refl (λ xs ys. refl) a.segments (map unmarked_segment a.segments) each bound
  where
    each : (k : ℕ) → objects_of_some (segment_at (map unmarked_segment a.segments) k) ≡ objects_of_some (segment_at a.segments k)
    each k = ap objects_of_some (at_map unmarked_segment (λ s. refl) a.segments k) ∙ by_segment (segment_at a.segments k)
      where
        by_segment : (o : Option SegmentValue) → objects_of_some (option_map unmarked_segment o) ≡ objects_of_some o
        by_segment None = refl
        by_segment (Some s) = unmarked_objects s

pub same_area : (a b : AreaValue) (bound : ℕ) → unmarked a ≡ unmarked b → area_objects bound a.segments ≡ area_objects bound b.segments
same_area a b bound e = sym (unmarked_area a bound) ∙ ap (λ (x : AreaValue). area_objects bound x.segments) e ∙ unmarked_area b bound
