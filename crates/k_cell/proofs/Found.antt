-- An object among those of an area, by its name.
use Rattle.std.proofs.Common.{◌≡◌, ◌≢◌, ◌⊎◌, ℕ, zero, suc, ◌+◌, ◌<◌, ◌≤◌, cond, refl, sym, ap, ap₂, ◌∙◌, inl, inr, List, [], ◌∷◌, get_or, find, slice_get, Option, Some, None, option_map, arith}
use Rattle.std.specs.Option.{option_or}
use Rattle.std.proofs.lemmas.Bool.{cases_eq, cases_lt}
use Rattle.std.proofs.lemmas.List.Folds.{find-append}
use Rattle.k_mark.specs.k_types.declared.names.Name.{Name}
use Rattle.k_mark.specs.k_types.Names.{name_eq}
use Rattle.k_mark.specs.k_types.State.{Content, Object, fields_of, object_at}
use Rattle.k_agree.proofs.NameTests.{name_eq-same}
use Rattle.k_mark.specs.k_space.Segments.{Row, SegmentValue, object_of, objects_from, segment_objects, row_at}
use Rattle.k_mark.specs.k_space.Areas.{segment_at, row_in_segment, row_of_name}
use Rattle.k_mark.proofs.AreaRows.{number_found}
use Rattle.k_mark.specs.Shown.{area_objects, objects_of_some, HasNoneFrom}
use Rattle.k_cell.specs.Looks.{found_among, row_fields, row_type, type_of_some}
use Rattle.k_mark.proofs.Shown.{other_serial, other_segment}

module _ (n : Name) where
  -- no later serial is that of the name
  none_later : (number k : ℕ) (rows : List (Option Row)) → n.serial.0 < k → find (λ (o : Object). name_eq o.name n) (objects_from number k rows) ≡ None
  none_later number k [] past = refl
  none_later number k (None ∷ rows) past = none_later number (k + 1) rows (omega (arith, past))
  none_later number k (Some row ∷ rows) past =
      ap₂ (λ b f. cond b (Some (object_of number k row)) f) (other_serial number k row n (λ s. omega (arith, s, past))) (none_later number (k + 1) rows (omega (arith, past)))

  -- nor one of another segment
  none_elsewhere : (number k : ℕ) (rows : List (Option Row)) → number ≢ n.seg.0 → find (λ (o : Object). name_eq o.name n) (objects_from number k rows) ≡ None
  none_elsewhere number k [] differs = refl
  none_elsewhere number k (None ∷ rows) differs = none_elsewhere number (k + 1) rows differs
  none_elsewhere number k (Some row ∷ rows) differs =
      ap₂ (λ b f. cond b (Some (object_of number k row)) f) (other_segment number k row n differs) (none_elsewhere number (k + 1) rows differs)

  found_from : (k : ℕ) (rows : List (Option Row)) (i : ℕ) → n.serial.0 ≡ k + i →
      find (λ (o : Object). name_eq o.name n) (objects_from n.seg.0 k rows) ≡ option_map (object_of n.seg.0 n.serial.0) (get_or rows i None)
  found_from k [] i e = refl
  found_from k (None ∷ rows) zero e = none_later n.seg.0 (k + 1) rows (omega (arith, e))
  found_from k (None ∷ rows) (suc i) e = found_from (k + 1) rows i (omega (arith, e))
  found_from k (Some row ∷ rows) zero e =
      let here : n.serial.0 ≡ k = omega (arith, e) in
      let named : (object_of n.seg.0 k row).name ≡ n = ap (λ s. record { seg = n.seg; serial = record { 0 = s } }) (sym here) in
      ap (λ b. cond b (Some (object_of n.seg.0 k row)) (find (λ (o : Object). name_eq o.name n) (objects_from n.seg.0 (k + 1) rows))) (name_eq-same (object_of n.seg.0 k row).name n named)
      ∙ ap (λ s. Some (object_of n.seg.0 s row)) (sym here)
  found_from k (Some row ∷ rows) (suc i) e =
      ap₂ (λ b f. cond b (Some (object_of n.seg.0 k row)) f) (other_serial n.seg.0 k row n (λ s. omega (arith, s, e))) (found_from (k + 1) rows i (omega (arith, e)))

  found_segment : (s : SegmentValue) → s.number ≡ n.seg.0 → find (λ (o : Object). name_eq o.name n) (segment_objects s) ≡ option_map (object_of n.seg.0 n.serial.0) (row_at s n.serial.0)
  found_segment s e = ap (λ k. find (λ (o : Object). name_eq o.name n) (objects_from k 0 s.rows)) e ∙ found_from 0 s.rows n.serial.0 (omega arith)

  none_of : (segments : List SegmentValue) (m : ℕ) → m ≢ n.seg.0 → find (λ (o : Object). name_eq o.name n) (objects_of_some (segment_at segments m)) ≡ None
  none_of segments m differs = by_segment (segment_at segments m) refl
    where
      by_segment : (o : Option SegmentValue) → segment_at segments m ≡ o → find (λ (x : Object). name_eq x.name n) (objects_of_some (segment_at segments m)) ≡ None
      by_segment None e = ap (λ o. find (λ (x : Object). name_eq x.name n) (objects_of_some o)) e
      by_segment (Some s) e = ap (λ o. find (λ (x : Object). name_eq x.name n) (objects_of_some o)) e ∙ none_elsewhere s.number 0 s.rows (λ k. differs (sym (number_found segments m s e) ∙ k))

  none_below : (segments : List SegmentValue) (m : ℕ) → m ≤ n.seg.0 → find (λ (o : Object). name_eq o.name n) (area_objects m segments) ≡ None
  none_below segments zero within = refl
  none_below segments (suc m) within =
      find-append (λ (o : Object). name_eq o.name n) (area_objects m segments) (objects_of_some (segment_at segments m))
      ∙ ap₂ option_or (none_below segments m (omega (arith, within))) (none_of segments m (λ s. omega (arith, within, s)))

  here_is : (segments : List SegmentValue) → find (λ (o : Object). name_eq o.name n) (objects_of_some (segment_at segments n.seg.0)) ≡ option_map (object_of n.seg.0 n.serial.0) (row_of_name segments n)
  here_is segments = by_segment (segment_at segments n.seg.0) refl
    where
      by_segment : (o : Option SegmentValue) → segment_at segments n.seg.0 ≡ o →
          find (λ (x : Object). name_eq x.name n) (objects_of_some (segment_at segments n.seg.0)) ≡ option_map (object_of n.seg.0 n.serial.0) (row_of_name segments n)
      by_segment None e =
          ap (λ o. find (λ (x : Object). name_eq x.name n) (objects_of_some o)) e ∙ sym (ap (λ (o : Option SegmentValue). option_map (object_of n.seg.0 n.serial.0) (row_in_segment o n.serial.0)) e)
      by_segment (Some s) e =
          ap (λ o. find (λ (x : Object). name_eq x.name n) (objects_of_some o)) e ∙ found_segment s (number_found segments n.seg.0 s e)
          ∙ sym (ap (λ (o : Option SegmentValue). option_map (object_of n.seg.0 n.serial.0) (row_in_segment o n.serial.0)) e)

  or_none : (o : Option Object) → option_or o None ≡ o
  or_none None = refl
  or_none (Some x) = refl

  found_within : (segments : List SegmentValue) (m : ℕ) → n.seg.0 < m → find (λ (o : Object). name_eq o.name n) (area_objects m segments) ≡ option_map (object_of n.seg.0 n.serial.0) (row_of_name segments n)
  found_within segments zero within = absurd (omega (arith, within))
  found_within segments (suc m) within =
      find-append (λ (o : Object). name_eq o.name n) (area_objects m segments) (objects_of_some (segment_at segments m))
      ∙ by_place (cases_eq n.seg.0 m) (found_within segments m)
    where
      by_place : (n.seg.0 ≡ m) ⊎ (n.seg.0 ≢ m) → (n.seg.0 < m → find (λ (o : Object). name_eq o.name n) (area_objects m segments) ≡ option_map (object_of n.seg.0 n.serial.0) (row_of_name segments n)) →
          option_or (find (λ (o : Object). name_eq o.name n) (area_objects m segments)) (find (λ (o : Object). name_eq o.name n) (objects_of_some (segment_at segments m))) ≡ option_map (object_of n.seg.0 n.serial.0) (row_of_name segments n)
      by_place (inl same) ih =
          ap₂ option_or (none_below segments m (omega (arith, same))) (ap (λ k. find (λ (o : Object). name_eq o.name n) (objects_of_some (segment_at segments k))) (sym same) ∙ here_is segments)
      by_place (inr differs) ih =
          ap₂ option_or (ih (omega (arith, within, differs))) (none_of segments m (λ s. differs (sym s))) ∙ or_none (option_map (object_of n.seg.0 n.serial.0) (row_of_name segments n))

  -- the object of the name is that of its row
  pub object_found : (segments : List SegmentValue) (bound : ℕ) → HasNoneFrom segments bound → object_at (area_objects bound segments) n ≡ option_map (object_of n.seg.0 n.serial.0) (row_of_name segments n)
  object_found segments bound none =
      elim (cases_lt n.seg.0 bound) [
        | inl within ↦ found_within segments bound within
        | inr past ↦ none_below segments bound past ∙ sym (ap (λ (o : Option SegmentValue). option_map (object_of n.seg.0 n.serial.0) (row_in_segment o n.serial.0)) (none n.seg.0 past))
      ]

  pub fields_found : (segments : List SegmentValue) (bound : ℕ) → HasNoneFrom segments bound → fields_of (object_at (area_objects bound segments) n) ≡ row_fields (row_of_name segments n)
  fields_found segments bound none = ap fields_of (object_found segments bound none) ∙ by_row (row_of_name segments n)
    where
      by_row : (o : Option Row) → fields_of (option_map (object_of n.seg.0 n.serial.0) o) ≡ row_fields o
      by_row None = refl
      by_row (Some row) = refl

  pub field_found : (segments : List SegmentValue) (bound i : ℕ) → HasNoneFrom segments bound → found_among (area_objects bound segments) n i ≡ slice_get (row_fields (row_of_name segments n)) i
  field_found segments bound i none = ap (λ (xs : List Content). slice_get xs i) (fields_found segments bound none)

  pub type_found : (segments : List SegmentValue) (bound : ℕ) → HasNoneFrom segments bound → type_of_some (object_at (area_objects bound segments) n) ≡ row_type (row_of_name segments n)
  type_found segments bound none = ap type_of_some (object_found segments bound none) ∙ by_row (row_of_name segments n)
    where
      by_row : (o : Option Row) → type_of_some (option_map (object_of n.seg.0 n.serial.0) o) ≡ row_type o
      by_row None = refl
      by_row (Some row) = refl
