-- What names find in an area that is changed.
use Rattle.std.proofs.Common.{◌≡◌, ◌≢◌, ◌==◌, ◌||◌, ◌&&◌, ℕ, zero, suc, Bool, true, false, cond, refl, sym, ap, ◌∙◌, inl, inr, List, [], ◌∷◌, ◌++◌, length, map, get_or, slice_set, Option, Some, None, is_some, option_map, eq-eqb, ne_eqb, arith}
use Rattle.std.proofs.lemmas.Bool.{cases_eq, cases_Bool, false≢true}
use Rattle.k_laws.specs.k_types.declared.names.Name.{Name}
use Rattle.k_laws.specs.k_types.Names.{name_eq}
use Rattle.k_laws.specs.k_types.State.{Content}
use Rattle.k_laws.proofs.NameTests.{name_eq-false, name_eq-true}
use Rattle.k_space.specs.Objects.{BodyValue}
use Rattle.k_space.specs.Segments.{Row, Color, White, Gray, Black, SegmentValue, row_at, placed, new_row, some_gray, some_black, some_marked, is_gray, is_black, is_marked, gray_or_black, unmarked_row, unmarked_segment}
use Rattle.k_space.specs.Areas.{AreaValue, segment_at, row_in_segment, row_of_name, with_segment, with_row_of, marked_at, gray_at, black_at, grayed, grayed_row, unmarked}
use Rattle.k_space.proofs.AreaRows.{found, after_same, after_other}
use Rattle.k_space.proofs.NameTests.{name_eq-parts}
use Rattle.k_mark.proofs.Looks.{black_gray}
use Rattle.k_mark.specs.Sweeping.{swept, swept_segment, survivor}
use Rattle.k_mark.specs.Shown.{name_in}
use Rattle.k_mark.proofs.Found.{at_map, at_push_same, at_push_other, at_set_same, at_set_other}

pushed_same : (rows : List (Option Row)) (x : Option Row) (i : ℕ) → i ≡ length rows → get_or (rows ++ x ∷ []) i None ≡ x
pushed_same [] x zero e = refl
pushed_same [] x (suc i) e = absurd (omega (arith, e))
pushed_same (r ∷ rows) x zero e = absurd (omega (arith, e))
pushed_same (r ∷ rows) x (suc i) e = pushed_same rows x i (omega (arith, e))

pushed_other : (rows : List (Option Row)) (x : Option Row) (i : ℕ) → i ≢ length rows → get_or (rows ++ x ∷ []) i None ≡ get_or rows i None
pushed_other [] x zero ne = absurd (ne refl)
pushed_other [] x (suc i) ne = refl
pushed_other (r ∷ rows) x zero ne = refl
pushed_other (r ∷ rows) x (suc i) ne = pushed_other rows x i (λ e. ne (omega (arith, e)))

mapped_row : (f : Option Row → Option Row) → f None ≡ None → (rows : List (Option Row)) (i : ℕ) → get_or (map f rows) i None ≡ f (get_or rows i None)
mapped_row f none [] i = sym none
mapped_row f none (r ∷ rows) zero = refl
mapped_row f none (r ∷ rows) (suc i) = mapped_row f none rows i

pub row_placed : (a : AreaValue) (s : SegmentValue) (slot : ℕ) (body : BodyValue) (n : Name) → segment_at a.segments s.number ≡ Some s →
    row_of_name (with_segment a s.number (placed s slot body)).segments n ≡ cond (name_eq n (name_in s (length s.rows))) (Some (new_row slot body)) (row_of_name a.segments n)
row_placed a s slot body n at =
    elim (cases_eq n.seg.0 s.number) [
      | inl same ↦
          let now : row_of_name (with_segment a s.number (placed s slot body)).segments n ≡ get_or (s.rows ++ Some (new_row slot body) ∷ []) n.serial.0 None =
          ap (λ o. row_in_segment o n.serial.0) (ap (segment_at (with_segment a s.number (placed s slot body)).segments) same ∙ at_set_same a.segments s.number s (placed s slot body) at refl) in
          let was : row_of_name a.segments n ≡ get_or s.rows n.serial.0 None = ap (λ o. row_in_segment o n.serial.0) (ap (segment_at a.segments) same ∙ at) in
          elim (cases_eq n.serial.0 (length s.rows)) [
            | inl here ↦
                now ∙ pushed_same s.rows (Some (new_row slot body)) n.serial.0 here
                ∙ sym (ap (λ b. cond b (Some (new_row slot body)) (row_of_name a.segments n)) (name_eq-parts n (name_in s (length s.rows)) same here))
            | inr apart ↦
                now ∙ pushed_other s.rows (Some (new_row slot body)) n.serial.0 apart ∙ sym was
                ∙ sym (ap (λ b. cond b (Some (new_row slot body)) (row_of_name a.segments n)) (name_eq-false n (name_in s (length s.rows)) (λ e. apart (ap (λ (m : Name). m.serial.0) e))))
          ]
      | inr differs ↦
          ap (λ o. row_in_segment o n.serial.0) (at_set_other a.segments s.number s (placed s slot body) at refl n.seg.0 differs)
          ∙ sym (ap (λ b. cond b (Some (new_row slot body)) (row_of_name a.segments n)) (name_eq-false n (name_in s (length s.rows)) (λ e. differs (ap (λ (m : Name). m.seg.0) e))))
    ]

pub row_changed : (a : AreaValue) (m n : Name) (row new : Row) → row_of_name a.segments m ≡ Some row →
    row_of_name (with_row_of a m (Some new)).segments n ≡ cond (name_eq m n) (Some new) (row_of_name a.segments n)
row_changed a m n row new there =
    elim (cases_Bool (name_eq m n)) [
      | inl same ↦
          ap (row_of_name (with_row_of a m (Some new)).segments) (sym (name_eq-true m n same)) ∙ after_same a m row new (found a m row there)
          ∙ sym (ap (λ b. cond b (Some new) (row_of_name a.segments n)) same)
      | inr differs ↦ after_other a m row new (found a m row there) n differs ∙ sym (ap (λ b. cond b (Some new) (row_of_name a.segments n)) differs)
    ]

pub row_joined : (segments : List SegmentValue) (s : SegmentValue) (n : Name) → segment_at segments s.number ≡ None →
    row_of_name (segments ++ s ∷ []) n ≡ cond (s.number == n.seg.0) (row_at s n.serial.0) (row_of_name segments n)
row_joined segments s n none =
    elim (cases_eq s.number n.seg.0) [
      | inl same ↦
          ap (λ o. row_in_segment o n.serial.0) (ap (segment_at (segments ++ s ∷ [])) (sym same) ∙ at_push_same segments s none)
          ∙ sym (ap (λ b. cond b (row_at s n.serial.0) (row_of_name segments n)) (eq-eqb s.number n.seg.0 same))
      | inr differs ↦
          ap (λ o. row_in_segment o n.serial.0) (at_push_other segments s n.seg.0 differs)
          ∙ sym (ap (λ b. cond b (row_at s n.serial.0) (row_of_name segments n)) (ne_eqb s.number n.seg.0 differs))
    ]

pub row_unmarked : (a : AreaValue) (n : Name) → row_of_name (unmarked a).segments n ≡ unmarked_row (row_of_name a.segments n)
row_unmarked a n = ap (λ o. row_in_segment o n.serial.0) (at_map unmarked_segment (λ s. refl) a.segments n.seg.0) ∙ by_segment (segment_at a.segments n.seg.0)
  where
    by_segment : (o : Option SegmentValue) → row_in_segment (option_map unmarked_segment o) n.serial.0 ≡ unmarked_row (row_in_segment o n.serial.0)
    by_segment None = refl
    by_segment (Some s) = mapped_row unmarked_row refl s.rows n.serial.0

pub row_swept : (a : AreaValue) (n : Name) → row_of_name (swept a).segments n ≡ survivor (row_of_name a.segments n)
row_swept a n = ap (λ o. row_in_segment o n.serial.0) (at_map swept_segment (λ s. refl) a.segments n.seg.0) ∙ by_segment (segment_at a.segments n.seg.0)
  where
    by_segment : (o : Option SegmentValue) → row_in_segment (option_map swept_segment o) n.serial.0 ≡ survivor (row_in_segment o n.serial.0)
    by_segment None = refl
    by_segment (Some s) = mapped_row survivor refl s.rows n.serial.0

or_false : (b : Bool) → b ≡ (b || false)
or_false true = refl
or_false false = refl

or_true : (b : Bool) → (b || true) ≡ true
or_true true = refl
or_true false = refl

and_false : (b : Bool) → (b && false) ≡ false
and_false true = refl
and_false false = refl

pub none_marked : (a : AreaValue) (n : Name) → marked_at (unmarked a) n ≡ false
none_marked a n = ap some_marked (row_unmarked a n) ∙ by_row (row_of_name a.segments n)
  where
    by_row : (o : Option Row) → some_marked (unmarked_row o) ≡ false
    by_row None = refl
    by_row (Some row) = refl

gray_now : (c : Color) → is_black c ≡ false → is_gray (gray_or_black c) ≡ true
gray_now White e = refl
gray_now Gray e = refl
gray_now Black e = absurd (false≢true (sym e))

pub gray_one : (a : AreaValue) (m n : Name) → black_at a m ≡ false → gray_at (grayed a m) n ≡ (gray_at a n || (name_eq m n && is_some (row_of_name a.segments m)))
gray_one a m n clean = by_row (row_of_name a.segments m) refl
  where
    by_row : (o : Option Row) → row_of_name a.segments m ≡ o → gray_at (grayed_row a m o) n ≡ (gray_at a n || (name_eq m n && is_some o))
    by_row None e = or_false (gray_at a n) ∙ ap (λ b. gray_at a n || b) (sym (and_false (name_eq m n)))
    by_row (Some row) e =
        ap some_gray (row_changed a m n row (record row { color = gray_or_black row.color }) e) ∙
        elim (cases_Bool (name_eq m n)) [
          | inl same ↦
              ap (λ b. some_gray (cond b (Some (record row { color = gray_or_black row.color })) (row_of_name a.segments n))) same
              ∙ gray_now row.color (sym (ap some_black e) ∙ clean)
              ∙ sym (ap (λ b. gray_at a n || (b && true)) same ∙ or_true (gray_at a n))
          | inr differs ↦
              ap (λ b. some_gray (cond b (Some (record row { color = gray_or_black row.color })) (row_of_name a.segments n))) differs
              ∙ or_false (gray_at a n) ∙ sym (ap (λ b. gray_at a n || (b && true)) differs)
        ]

pub black_same : (a : AreaValue) (m n : Name) → black_at (grayed a m) n ≡ black_at a n
black_same a m n = by_row (row_of_name a.segments m) refl
  where
    by_row : (o : Option Row) → row_of_name a.segments m ≡ o → black_at (grayed_row a m o) n ≡ black_at a n
    by_row None e = refl
    by_row (Some row) e =
        ap some_black (row_changed a m n row (record row { color = gray_or_black row.color }) e) ∙
        elim (cases_Bool (name_eq m n)) [
          | inl same ↦
              ap (λ b. some_black (cond b (Some (record row { color = gray_or_black row.color })) (row_of_name a.segments n))) same
              ∙ black_gray row.color ∙ sym (ap some_black (ap (row_of_name a.segments) (sym (name_eq-true m n same)) ∙ e))
          | inr differs ↦ ap (λ b. some_black (cond b (Some (record row { color = gray_or_black row.color })) (row_of_name a.segments n))) differs
        ]

past_end : (rows : List (Option Row)) (i : ℕ) → i ≡ length rows → get_or rows i None ≡ None
past_end [] i e = refl
past_end (r ∷ rows) zero e = absurd (omega (arith, e))
past_end (r ∷ rows) (suc i) e = past_end rows i (omega (arith, e))

-- a test of marks, which a new object doesn't pass
module _ (t : Option Row → Bool) where
  test_placed : (a : AreaValue) (s : SegmentValue) (slot : ℕ) (body : BodyValue) (n : Name) → t (Some (new_row slot body)) ≡ t None → segment_at a.segments s.number ≡ Some s →
      t (row_of_name (with_segment a s.number (placed s slot body)).segments n) ≡ t (row_of_name a.segments n)
  test_placed a s slot body n off at =
      ap t (row_placed a s slot body n at) ∙
      elim (cases_Bool (name_eq n (name_in s (length s.rows)))) [
        | inl same ↦
            let is = name_eq-true n (name_in s (length s.rows)) same in
            let was : row_of_name a.segments n ≡ None =
            ap (row_of_name a.segments) is ∙ ap (λ o. row_in_segment o (length s.rows)) at ∙ past_end s.rows (length s.rows) refl in
            ap (λ b. t (cond b (Some (new_row slot body)) (row_of_name a.segments n))) same ∙ off ∙ sym (ap t was)
        | inr differs ↦ ap (λ b. t (cond b (Some (new_row slot body)) (row_of_name a.segments n))) differs
      ]

  test_written : (a : AreaValue) (m n : Name) (row new : Row) → t (Some new) ≡ t (Some row) → row_of_name a.segments m ≡ Some row →
      t (row_of_name (with_row_of a m (Some new)).segments n) ≡ t (row_of_name a.segments n)
  test_written a m n row new same_test there =
      ap t (row_changed a m n row new there) ∙
      elim (cases_Bool (name_eq m n)) [
        | inl same ↦
            ap (λ b. t (cond b (Some new) (row_of_name a.segments n))) same ∙ same_test
            ∙ sym (ap t (ap (row_of_name a.segments) (sym (name_eq-true m n same)) ∙ there))
        | inr differs ↦ ap (λ b. t (cond b (Some new) (row_of_name a.segments n))) differs
      ]

pub gray_placed : (a : AreaValue) (s : SegmentValue) (slot : ℕ) (body : BodyValue) (n : Name) → segment_at a.segments s.number ≡ Some s → gray_at (with_segment a s.number (placed s slot body)) n ≡ gray_at a n
gray_placed a s slot body n at = test_placed some_gray a s slot body n refl at

pub black_placed : (a : AreaValue) (s : SegmentValue) (slot : ℕ) (body : BodyValue) (n : Name) → segment_at a.segments s.number ≡ Some s → black_at (with_segment a s.number (placed s slot body)) n ≡ black_at a n
black_placed a s slot body n at = test_placed some_black a s slot body n refl at

pub gray_written : (a : AreaValue) (m n : Name) (row : Row) (field : ℕ) (content : Content) → row_of_name a.segments m ≡ Some row →
    gray_at (with_row_of a m (Some (record row { fields = slice_set row.fields field content }))) n ≡ gray_at a n
gray_written a m n row field content there = test_written some_gray a m n row (record row { fields = slice_set row.fields field content }) refl there

pub black_written : (a : AreaValue) (m n : Name) (row : Row) (field : ℕ) (content : Content) → row_of_name a.segments m ≡ Some row →
    black_at (with_row_of a m (Some (record row { fields = slice_set row.fields field content }))) n ≡ black_at a n
black_written a m n row field content there = test_written some_black a m n row (record row { fields = slice_set row.fields field content }) refl there

pub gray_swept : (a : AreaValue) (n : Name) → gray_at a n ≡ false → gray_at (swept a) n ≡ false
gray_swept a n none = ap some_gray (row_swept a n) ∙ by_row (row_of_name a.segments n) none
  where
    by_mark : (row : Row) (b : Bool) → is_gray row.color ≡ false → some_gray (cond b (Some row) None) ≡ false
    by_mark row true e = e
    by_mark row false e = refl

    by_row : (o : Option Row) → some_gray o ≡ false → some_gray (survivor o) ≡ false
    by_row None e = refl
    by_row (Some row) e = by_mark row (is_marked row.color) e

pub gray_joined : (a : AreaValue) (s : SegmentValue) (n : Name) → segment_at a.segments s.number ≡ None → ((serial : ℕ) → some_gray (row_at s serial) ≡ false) →
    gray_at (record a { segments = a.segments ++ s ∷ [] }) n ≡ gray_at a n
gray_joined a s n none clean =
    ap some_gray (row_joined a.segments s n none) ∙
    elim (cases_eq s.number n.seg.0) [
      | inl same ↦
          ap (λ b. some_gray (cond b (row_at s n.serial.0) (row_of_name a.segments n))) (eq-eqb s.number n.seg.0 same) ∙ clean n.serial.0
          ∙ sym (ap (λ (o : Option SegmentValue). some_gray (row_in_segment o n.serial.0)) (ap (segment_at a.segments) (sym same) ∙ none))
      | inr differs ↦ ap (λ b. some_gray (cond b (row_at s n.serial.0) (row_of_name a.segments n))) (ne_eqb s.number n.seg.0 differs)
    ]
