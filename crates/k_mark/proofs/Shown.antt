-- The objects that segments and areas show.
use Rattle.std.proofs.Common.{◌≡◌, ◌≢◌, ◌||◌, ◌⊎◌, not, ℕ, zero, suc, ◌+◌, ◌<◌, ◌≤◌, Bool, true, false, cond, refl, sym, ap, ap₂, ◌∙◌, inl, inr, List, [], ◌∷◌, ◌++◌, length, map, filter, get_or, set, slice_set, Option, Some, None, arith}
use Rattle.std.specs.List.{list_any}
use Rattle.std.proofs.lemmas.Bool.{cases_eq, cases_lt, false_from_ne_true}
use Rattle.k_laws.specs.k_types.declared.names.Name.{Name}
use Rattle.k_laws.specs.k_types.Names.{name_eq}
use Rattle.k_laws.specs.k_types.State.{Content, Object}
use Rattle.k_laws.specs.k_types.Updates.{object_after_write}
use Rattle.k_space.specs.Objects.{BodyValue}
use Rattle.k_space.specs.Segments.{Row, Color, SegmentValue, object_of, objects_from, segment_objects, row_at, with_row, placed, new_row, unmarked_row, unmarked_segment}
use Rattle.k_space.specs.Areas.{segment_at, row_in_segment, row_of_name}
use Rattle.k_mark.specs.Shown.{area_objects, objects_of_some, HasNoneFrom}
use Rattle.k_space.proofs.AreaRows.{number_found}
use Rattle.k_laws.proofs.NameTests.{name_eq-true}
use Rattle.k_space.proofs.NameTests.{name_eq-parts}
use Rattle.std.proofs.lemmas.List.Folds.{list_any-append}

-- what a test says of the object of a name, if there is one
abbrev pub at_row : (Object → Bool) → Name → Option Row → Bool
at_row t n None = false
at_row t n (Some row) = t (object_of n.seg.0 n.serial.0 row)

or_none : (a : Bool) → (a || false) ≡ a
or_none true = refl
or_none false = refl

pub other_serial : (number serial : ℕ) (row : Row) (n : Name) → serial ≢ n.serial.0 → name_eq (object_of number serial row).name n ≡ false
other_serial number serial row n differs =
    false_from_ne_true (name_eq (object_of number serial row).name n) (λ e. differs (ap (λ (m : Name). m.serial.0) (name_eq-true (object_of number serial row).name n e)))

pub other_segment : (number serial : ℕ) (row : Row) (n : Name) → number ≢ n.seg.0 → name_eq (object_of number serial row).name n ≡ false
other_segment number serial row n differs =
    false_from_ne_true (name_eq (object_of number serial row).name n) (λ e. differs (ap (λ (m : Name). m.seg.0) (name_eq-true (object_of number serial row).name n e)))

module _ (t : Object → Bool) (n : Name) (off : (o : Object) → name_eq o.name n ≡ false → t o ≡ false) where
  -- no later serial is that of the name
  none_later : (number k : ℕ) (rows : List (Option Row)) → n.serial.0 < k → list_any t (objects_from number k rows) ≡ false
  none_later number k [] past = refl
  none_later number k (None ∷ rows) past = none_later number (k + 1) rows (omega (arith, past))
  none_later number k (Some row ∷ rows) past =
      ap₂ (λ a b. a || b) (off (object_of number k row) (other_serial number k row n (λ s. omega (arith, s, past)))) (none_later number (k + 1) rows (omega (arith, past)))

  -- nor one of another segment
  none_elsewhere : (number k : ℕ) (rows : List (Option Row)) → number ≢ n.seg.0 → list_any t (objects_from number k rows) ≡ false
  none_elsewhere number k [] differs = refl
  none_elsewhere number k (None ∷ rows) differs = none_elsewhere number (k + 1) rows differs
  none_elsewhere number k (Some row ∷ rows) differs =
      ap₂ (λ a b. a || b) (off (object_of number k row) (other_segment number k row n differs)) (none_elsewhere number (k + 1) rows differs)

  any_from : (k : ℕ) (rows : List (Option Row)) (i : ℕ) → n.serial.0 ≡ k + i → list_any t (objects_from n.seg.0 k rows) ≡ at_row t n (get_or rows i None)
  any_from k [] i e = refl
  any_from k (None ∷ rows) zero e = none_later n.seg.0 (k + 1) rows (omega (arith, e))
  any_from k (None ∷ rows) (suc i) e = any_from (k + 1) rows i (omega (arith, e))
  any_from k (Some row ∷ rows) zero e =
      let here : n.serial.0 ≡ k = omega (arith, e) in
      ap (λ b. t (object_of n.seg.0 k row) || b) (none_later n.seg.0 (k + 1) rows (omega (arith, e))) ∙ or_none (t (object_of n.seg.0 k row)) ∙ ap (λ s. t (object_of n.seg.0 s row)) (sym here)
  any_from k (Some row ∷ rows) (suc i) e =
      ap₂ (λ a b. a || b) (off (object_of n.seg.0 k row) (other_serial n.seg.0 k row n (λ s. omega (arith, s, e)))) (any_from (k + 1) rows i (omega (arith, e)))

  any_segment : (s : SegmentValue) → s.number ≡ n.seg.0 → list_any t (segment_objects s) ≡ at_row t n (row_at s n.serial.0)
  any_segment s e = ap (λ k. list_any t (objects_from k 0 s.rows)) e ∙ any_from 0 s.rows n.serial.0 (omega arith)

  none_of : (segments : List SegmentValue) (m : ℕ) → m ≢ n.seg.0 → list_any t (objects_of_some (segment_at segments m)) ≡ false
  none_of segments m differs = by_segment (segment_at segments m) refl
    where
      by_segment : (o : Option SegmentValue) → segment_at segments m ≡ o → list_any t (objects_of_some (segment_at segments m)) ≡ false
      by_segment None e = ap (λ o. list_any t (objects_of_some o)) e
      by_segment (Some s) e = ap (λ o. list_any t (objects_of_some o)) e ∙ none_elsewhere s.number 0 s.rows (λ k. differs (sym (number_found segments m s e) ∙ k))

  none_below : (segments : List SegmentValue) (m : ℕ) → m ≤ n.seg.0 → list_any t (area_objects m segments) ≡ false
  none_below segments zero within = refl
  none_below segments (suc m) within =
      list_any-append t (area_objects m segments) (objects_of_some (segment_at segments m))
      ∙ ap₂ (λ a b. a || b) (none_below segments m (omega (arith, within))) (none_of segments m (λ s. omega (arith, within, s)))

  here_is : (segments : List SegmentValue) → list_any t (objects_of_some (segment_at segments n.seg.0)) ≡ at_row t n (row_of_name segments n)
  here_is segments = by_segment (segment_at segments n.seg.0) refl
    where
      by_segment : (o : Option SegmentValue) → segment_at segments n.seg.0 ≡ o → list_any t (objects_of_some (segment_at segments n.seg.0)) ≡ at_row t n (row_of_name segments n)
      by_segment None e = ap (λ o. list_any t (objects_of_some o)) e ∙ sym (ap (λ (o : Option SegmentValue). at_row t n (row_in_segment o n.serial.0)) e)
      by_segment (Some s) e =
          ap (λ o. list_any t (objects_of_some o)) e ∙ any_segment s (number_found segments n.seg.0 s e) ∙ sym (ap (λ (o : Option SegmentValue). at_row t n (row_in_segment o n.serial.0)) e)

  any_within : (segments : List SegmentValue) (m : ℕ) → n.seg.0 < m → list_any t (area_objects m segments) ≡ at_row t n (row_of_name segments n)
  any_within segments zero within = absurd (omega (arith, within))
  any_within segments (suc m) within =
      list_any-append t (area_objects m segments) (objects_of_some (segment_at segments m))
      ∙ by_place (cases_eq n.seg.0 m) (any_within segments m)
    where
      by_place : (n.seg.0 ≡ m) ⊎ (n.seg.0 ≢ m) → (n.seg.0 < m → list_any t (area_objects m segments) ≡ at_row t n (row_of_name segments n)) →
          (list_any t (area_objects m segments) || list_any t (objects_of_some (segment_at segments m))) ≡ at_row t n (row_of_name segments n)
      by_place (inl same) ih =
          ap₂ (λ a b. a || b) (none_below segments m (omega (arith, same))) (ap (λ k. list_any t (objects_of_some (segment_at segments k))) (sym same) ∙ here_is segments)
      by_place (inr differs) ih =
          ap₂ (λ a b. a || b) (ih (omega (arith, within, differs))) (none_of segments m (λ s. differs (sym s))) ∙ or_none (at_row t n (row_of_name segments n))

  -- a test of one object of the area, by its name
  pub any_area : (segments : List SegmentValue) (bound : ℕ) → HasNoneFrom segments bound → list_any t (area_objects bound segments) ≡ at_row t n (row_of_name segments n)
  any_area segments bound none =
      elim (cases_lt n.seg.0 bound) [
        | inl within ↦ any_within segments bound within
        | inr past ↦ none_below segments bound past ∙ sym (ap (λ (o : Option SegmentValue). at_row t n (row_in_segment o n.serial.0)) (none n.seg.0 past))
      ]

-- one object more
pub placed_objects : (s : SegmentValue) (slot : ℕ) (body : BodyValue) → segment_objects (placed s slot body) ≡ segment_objects s ++ object_of s.number (length s.rows) (new_row slot body) ∷ []
placed_objects s slot body = from_pushed s.rows 0 ∙ ap (λ k. objects_from s.number 0 s.rows ++ object_of s.number k (new_row slot body) ∷ []) (omega arith)
  where
    from_pushed : (rows : List (Option Row)) (k : ℕ) → objects_from s.number k (rows ++ Some (new_row slot body) ∷ []) ≡ objects_from s.number k rows ++ object_of s.number (k + length rows) (new_row slot body) ∷ []
    from_pushed [] k = ap (λ i. object_of s.number i (new_row slot body) ∷ []) (omega arith)
    from_pushed (None ∷ rows) k = from_pushed rows (k + 1) ∙ ap (λ i. objects_from s.number (k + 1) rows ++ object_of s.number i (new_row slot body) ∷ []) (omega arith)
    from_pushed (Some row ∷ rows) k =
        ap (λ os. object_of s.number k row ∷ os) (from_pushed rows (k + 1) ∙ ap (λ i. objects_from s.number (k + 1) rows ++ object_of s.number i (new_row slot body) ∷ []) (omega arith))

abbrev named : ℕ → ℕ → Name
named seg serial = record { seg = record { 0 = seg }; serial = record { 0 = serial } }

-- a change of one object by its name
module _ (number serial : ℕ) (f : Object → Object) (kept : (o : Object) → name_eq o.name (record { seg = record { 0 = number }; serial = record { 0 = serial } }) ≡ false → f o ≡ o) where
  late_same : (rows : List (Option Row)) (k : ℕ) → serial < k → map f (objects_from number k rows) ≡ objects_from number k rows
  late_same [] k past = refl
  late_same (None ∷ rows) k past = late_same rows (k + 1) (omega (arith, past))
  late_same (Some row ∷ rows) k past =
      ap₂ (λ (o : Object) os. o ∷ os) (kept (object_of number k row) (other_serial number k row (named number serial) (λ s. omega (arith, s, past)))) (late_same rows (k + 1) (omega (arith, past)))

  changed_from : (rows : List (Option Row)) (k i : ℕ) (row new : Row) → serial ≡ k + i → get_or rows i None ≡ Some row → object_of number serial new ≡ f (object_of number serial row) →
      objects_from number k (set rows i (Some new)) ≡ map f (objects_from number k rows)
  changed_from [] k i row new e at is = absurd (cc)
  changed_from (None ∷ rows) k zero row new e at is = absurd (cc)
  changed_from (None ∷ rows) k (suc i) row new e at is = changed_from rows (k + 1) i row new (omega (arith, e)) at is
  changed_from (Some r ∷ rows) k zero row new e at is =
      let same : r ≡ row = cc in
      let here : k ≡ serial = omega (arith, e) in
      ap₂ (λ (o : Object) os. o ∷ os)
      (ap (λ s. object_of number s new) here ∙ is ∙ ap₂ (λ s (x : Row). f (object_of number s x)) (sym here) (sym same))
      (sym (late_same rows (k + 1) (omega (arith, e))))
  changed_from (Some r ∷ rows) k (suc i) row new e at is =
      ap₂ (λ (o : Object) os. o ∷ os) (sym (kept (object_of number k r) (other_serial number k r (named number serial) (λ s. omega (arith, s, e))))) (changed_from rows (k + 1) i row new (omega (arith, e)) at is)

-- a write of one field
pub written_objects : (s : SegmentValue) (serial : ℕ) (row : Row) (field : ℕ) (content : Content) → row_at s serial ≡ Some row →
    segment_objects (with_row s serial (Some (record row { fields = slice_set row.fields field content }))) ≡ map (object_after_write (named s.number serial) field content) (segment_objects s)
written_objects s serial row field content at =
    changed_from s.number serial (object_after_write (named s.number serial) field content)
    (λ o off. ap (λ b. cond b (record o { fields = slice_set o.fields field content }) o) off)
    s.rows 0 serial row (record row { fields = slice_set row.fields field content }) (omega arith) at
    (sym (ap (λ b. cond b (object_of s.number serial (record row { fields = slice_set row.fields field content })) (object_of s.number serial row)) (name_eq-parts (named s.number serial) (named s.number serial) refl refl)))

-- another mark
pub recolored_objects : (s : SegmentValue) (serial : ℕ) (row : Row) (c : Color) → row_at s serial ≡ Some row → segment_objects (with_row s serial (Some (record row { color = c }))) ≡ segment_objects s
recolored_objects s serial row c at = changed_from s.number serial (λ o. o) (λ o off. refl) s.rows 0 serial row (record row { color = c }) (omega arith) at refl ∙ same (segment_objects s)
  where
    same : (os : List Object) → map (λ (o : Object). o) os ≡ os
    same [] = refl
    same (o ∷ os) = ap (λ ps. o ∷ ps) (same os)

pub unmarked_objects : (s : SegmentValue) → segment_objects (unmarked_segment s) ≡ segment_objects s
unmarked_objects s = from_rows s.rows 0
  where
    from_rows : (rows : List (Option Row)) (k : ℕ) → objects_from s.number k (map unmarked_row rows) ≡ objects_from s.number k rows
    from_rows [] k = refl
    from_rows (None ∷ rows) k = from_rows rows (k + 1)
    from_rows (Some row ∷ rows) k = ap (λ os. object_of s.number k row ∷ os) (from_rows rows (k + 1))

-- an object is gone
pub freed_objects : (s : SegmentValue) (serial : ℕ) → segment_objects (with_row s serial None) ≡ filter (λ o. not (name_eq o.name (named s.number serial))) (segment_objects s)
freed_objects s serial = from_rows s.rows 0 serial (omega arith)
  where
    keeps : (k : ℕ) (row : Row) (os ps : List Object) → k ≢ serial → os ≡ filter (λ o. not (name_eq o.name (named s.number serial))) ps →
        object_of s.number k row ∷ os ≡ filter (λ o. not (name_eq o.name (named s.number serial))) (object_of s.number k row ∷ ps)
    keeps k row os ps differs e =
        ap (λ qs. object_of s.number k row ∷ qs) e
        ∙ sym (ap (λ b. cond (not b) (object_of s.number k row ∷ filter (λ o. not (name_eq o.name (named s.number serial))) ps) (filter (λ o. not (name_eq o.name (named s.number serial))) ps)) (other_serial s.number k row (named s.number serial) differs))

    late : (rows : List (Option Row)) (k : ℕ) → serial < k → objects_from s.number k rows ≡ filter (λ o. not (name_eq o.name (named s.number serial))) (objects_from s.number k rows)
    late [] k past = refl
    late (None ∷ rows) k past = late rows (k + 1) (omega (arith, past))
    late (Some row ∷ rows) k past = keeps k row (objects_from s.number (k + 1) rows) (objects_from s.number (k + 1) rows) (λ e. omega (arith, e, past)) (late rows (k + 1) (omega (arith, past)))

    from_rows : (rows : List (Option Row)) (k i : ℕ) → serial ≡ k + i → objects_from s.number k (set rows i None) ≡ filter (λ o. not (name_eq o.name (named s.number serial))) (objects_from s.number k rows)
    from_rows [] k i e = refl
    from_rows (None ∷ rows) k zero e = late rows (k + 1) (omega (arith, e))
    from_rows (None ∷ rows) k (suc i) e = from_rows rows (k + 1) i (omega (arith, e))
    from_rows (Some row ∷ rows) k zero e =
        let here : k ≡ serial = omega (arith, e) in
        late rows (k + 1) (omega (arith, e))
        ∙ sym (ap (λ b. cond (not b) (object_of s.number k row ∷ filter (λ o. not (name_eq o.name (named s.number serial))) (objects_from s.number (k + 1) rows)) (filter (λ o. not (name_eq o.name (named s.number serial))) (objects_from s.number (k + 1) rows)))
        (name_eq-parts (named s.number k) (named s.number serial) refl here))
    from_rows (Some row ∷ rows) k (suc i) e = keeps k row (objects_from s.number (k + 1) (set rows i None)) (objects_from s.number (k + 1) rows) (λ d. omega (arith, d, e)) (from_rows rows (k + 1) i (omega (arith, e)))
