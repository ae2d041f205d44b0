-- What the objects of an area are after one of them is changed.
use Rattle.std.proofs.Common.{◌≡◌, ◌≢◌, ◌==◌, ℕ, zero, suc, ◌+◌, ◌<◌, not, false, refl, sym, ap, subst, ◌∙◌, inl, inr, List, [], ◌∷◌, length, map, get_or, set, slice_get, sum_by, Option, Some, None, is_some, eqb-true, arith}
use Rattle.k_types.proofs.Lists.{some_one, some_inside, slice_get-set_other}
use Rattle.std.specs.List.{position_or_len}
use Rattle.std.proofs.Math.Seq.{map-set_same}
use Rattle.std.proofs.lemmas.Bool.{cases_eq, false≢true}
use Rattle.std.proofs.lemmas.List.{get_or-set_same, get_or-set_other}
use Rattle.std.proofs.lemmas.List.Folds.{position_or_len-set}
use Rattle.std.proofs.lemmas.List.Sums.{passes_at_first, sum_by-set}
use Rattle.std.proofs.lemmas.Option.{get_or_from_slice_get, slice_get_within}
use Rattle.k_types.specs.declared.names.Name.{Name}
use Rattle.k_types.specs.Names.{name_eq}
use Rattle.k_space.specs.Segments.{SegmentValue, Row, Color, row_at, with_row, unmarked_row, unmarked_segment}
use Rattle.k_space.specs.Areas.{AreaValue, place_of, segment_at, row_in_segment, row_of_name, with_row_of, with_row_in, HasDistinct, unmarked, is_foreign, rows_total}
use Rattle.k_space.proofs.NameTests.{name_eq-parts}

pub slice_get-set_same : {A : Type 0} (xs : List A) (i : ℕ) (y : A) → i < length xs → slice_get (set xs i y) i ≡ Some y
slice_get-set_same [] i y within = absurd (omega arith)
slice_get-set_same (x ∷ xs) zero y within = refl
slice_get-set_same (x ∷ xs) (suc i) y within = slice_get-set_same xs i y (omega (arith, within))

-- the segment found has that number
pub number_found : (segments : List SegmentValue) (k : ℕ) (s : SegmentValue) → segment_at segments k ≡ Some s → s.number ≡ k
number_found segments k s e =
    let p = position_or_len (λ (x : SegmentValue). x.number == k) segments in
    let within : p < length segments = slice_get_within segments p s e in
    let at : get_or segments p s ≡ s = get_or_from_slice_get segments p s s e in
    eqb-true s.number k (ap (λ (x : SegmentValue). x.number == k) (sym at) ∙ passes_at_first (λ (x : SegmentValue). x.number == k) segments s within)

pub record Found (a : AreaValue) (n : Name) (row : Row) : Type 0 where
  pub space : SegmentValue
  pub at : segment_at a.segments n.seg.0 ≡ Some space
  pub there : row_at space n.serial.0 ≡ Some row

pub found : (a : AreaValue) (n : Name) (row : Row) → row_of_name a.segments n ≡ Some row → Found a n row
found a n row e = by_segment (segment_at a.segments n.seg.0) refl e
  where
    by_segment : (o : Option SegmentValue) → segment_at a.segments n.seg.0 ≡ o → row_in_segment o n.serial.0 ≡ Some row → Found a n row
    by_segment None at e = absurd (cc)
    by_segment (Some s) at e = record { space = s; at = at; there = e }

module _ (a : AreaValue) (n : Name) (row new : Row) (f : Found a n row) where
  put : SegmentValue
  put = with_row f.space n.serial.0 (Some new)

  changed : List SegmentValue
  changed = set a.segments (place_of a.segments n.seg.0) (with_row f.space n.serial.0 (Some new))

  pub changed_is : (with_row_of a n (Some new)).segments ≡ set a.segments (place_of a.segments n.seg.0) (with_row f.space n.serial.0 (Some new))
  changed_is = ap (λ (o : Option SegmentValue). (with_row_in a n (Some new) o).segments) f.at

  here : get_or a.segments (place_of a.segments n.seg.0) f.space ≡ f.space
  here = get_or_from_slice_get a.segments (place_of a.segments n.seg.0) f.space f.space f.at

  inside : place_of a.segments n.seg.0 < length a.segments
  inside = slice_get_within a.segments (place_of a.segments n.seg.0) f.space f.at

  place_same : (k : ℕ) → place_of (set a.segments (place_of a.segments n.seg.0) (with_row f.space n.serial.0 (Some new))) k ≡ place_of a.segments k
  place_same k =
      position_or_len-set (λ (s : SegmentValue). s.number == k) a.segments (place_of a.segments n.seg.0) (with_row f.space n.serial.0 (Some new)) f.space
      (ap (λ (s : SegmentValue). s.number == k) (sym here))

  segment_same : (k : ℕ) → k ≡ n.seg.0 → segment_at (set a.segments (place_of a.segments n.seg.0) (with_row f.space n.serial.0 (Some new))) k ≡ Some (with_row f.space n.serial.0 (Some new))
  segment_same k e =
      ap (λ p. slice_get (set a.segments (place_of a.segments n.seg.0) (with_row f.space n.serial.0 (Some new))) p) (place_same k ∙ ap (place_of a.segments) e)
      ∙ slice_get-set_same a.segments (place_of a.segments n.seg.0) (with_row f.space n.serial.0 (Some new)) inside

  segment_other : (k : ℕ) → k ≢ n.seg.0 → segment_at (set a.segments (place_of a.segments n.seg.0) (with_row f.space n.serial.0 (Some new))) k ≡ segment_at a.segments k
  segment_other k ne =
      ap (λ p. slice_get (set a.segments (place_of a.segments n.seg.0) (with_row f.space n.serial.0 (Some new))) p) (place_same k)
      ∙ slice_get-set_other a.segments (place_of a.segments n.seg.0) (place_of a.segments k) (with_row f.space n.serial.0 (Some new)) apart
    where
      apart : place_of a.segments k ≢ place_of a.segments n.seg.0
      apart same = ne (sym (number_found a.segments k f.space (ap (slice_get a.segments) same ∙ f.at)) ∙ number_found a.segments n.seg.0 f.space f.at)

  -- the object itself
  pub after_same : row_of_name (with_row_of a n (Some new)).segments n ≡ Some new
  after_same =
      ap (λ segments. row_of_name segments n) changed_is
      ∙ ap (λ o. row_in_segment o n.serial.0) (segment_same n.seg.0 refl)
      ∙ get_or-set_same f.space.rows n.serial.0 (Some new) None (some_inside f.space.rows n.serial.0 row f.there)

  -- each other
  pub after_other : (m : Name) → name_eq n m ≡ false → row_of_name (with_row_of a n (Some new)).segments m ≡ row_of_name a.segments m
  after_other m ne =
      ap (λ segments. row_of_name segments m) changed_is ∙
      elim (cases_eq m.seg.0 n.seg.0) [
        | inl same ↦
            let apart : m.serial.0 ≢ n.serial.0 = λ serials. false≢true (sym ne ∙ name_eq-parts n m (sym same) (sym serials)) in
            ap (λ o. row_in_segment o m.serial.0) (segment_same m.seg.0 same)
            ∙ get_or-set_other f.space.rows n.serial.0 m.serial.0 (Some new) None apart
            ∙ sym (ap (λ o. row_in_segment o m.serial.0) (ap (segment_at a.segments) same ∙ f.at))
        | inr differs ↦ ap (λ o. row_in_segment o m.serial.0) (segment_other m.seg.0 differs)
      ]

  pub after_foreign : (m : Name) → is_foreign (with_row_of a n (Some new)) m ≡ is_foreign a m
  after_foreign m =
      ap (λ (segments : List SegmentValue). not (is_some (segment_at segments m.seg.0))) changed_is ∙
      elim (cases_eq m.seg.0 n.seg.0) [
        | inl same ↦ ap (λ (o : Option SegmentValue). not (is_some o)) (segment_same m.seg.0 same) ∙ sym (ap (λ (o : Option SegmentValue). not (is_some o)) (ap (segment_at a.segments) same ∙ f.at))
        | inr differs ↦ ap (λ (o : Option SegmentValue). not (is_some o)) (segment_other m.seg.0 differs)
      ]

  pub after_distinct : HasDistinct a.segments → HasDistinct (with_row_of a n (Some new)).segments
  after_distinct distinct = subst (λ (segments : List SegmentValue). HasDistinct segments) (sym changed_is) kept
    where
      kept : HasDistinct (set a.segments (place_of a.segments n.seg.0) (with_row f.space n.serial.0 (Some new)))
      kept i s e =
          place_same s.number ∙
          elim (cases_eq i (place_of a.segments n.seg.0)) [
            | inl same ↦
                let one = some_one (sym (slice_get-set_same a.segments (place_of a.segments n.seg.0) (with_row f.space n.serial.0 (Some new)) inside) ∙ ap (slice_get (set a.segments (place_of a.segments n.seg.0) (with_row f.space n.serial.0 (Some new)))) (sym same) ∙ e) in
                ap (λ (x : SegmentValue). place_of a.segments x.number) (sym one) ∙ ap (place_of a.segments) (number_found a.segments n.seg.0 f.space f.at) ∙ sym same
            | inr differs ↦ distinct i s (sym (slice_get-set_other a.segments (place_of a.segments n.seg.0) i (with_row f.space n.serial.0 (Some new)) differs) ∙ e)
          ]

  -- a sum over the objects
  pub after_total : (g : Option Row → ℕ) → rows_total g (with_row_of a n (Some new)) + g (Some row) ≡ rows_total g a + g (Some new)
  after_total g =
      let rows : sum_by g (set f.space.rows n.serial.0 (Some new)) + g (get_or f.space.rows n.serial.0 None) ≡ sum_by g f.space.rows + g (Some new) =
      sum_by-set g f.space.rows n.serial.0 (Some new) None (some_inside f.space.rows n.serial.0 row f.there) in
      let whole = sum_by-set (λ (s : SegmentValue). sum_by g s.rows) a.segments (place_of a.segments n.seg.0) (with_row f.space n.serial.0 (Some new)) f.space inside in
      let was : g (get_or f.space.rows n.serial.0 None) ≡ g (Some row) = ap g f.there in
      let all : rows_total g (with_row_of a n (Some new)) ≡ sum_by (λ (s : SegmentValue). sum_by g s.rows) (set a.segments (place_of a.segments n.seg.0) (with_row f.space n.serial.0 (Some new))) = ap (λ (segments : List SegmentValue). sum_by (λ (s : SegmentValue). sum_by g s.rows) segments) changed_is in
      let had : sum_by g (get_or a.segments (place_of a.segments n.seg.0) f.space).rows ≡ sum_by g f.space.rows = ap (λ (s : SegmentValue). sum_by g s.rows) here in
      omega (arith, rows, whole, was, all, had)

-- another color leaves the rest
pub same_unmarked : (a : AreaValue) (n : Name) (row : Row) (c : Color) → row_of_name a.segments n ≡ Some row → unmarked (with_row_of a n (Some (record row { color = c }))) ≡ unmarked a
same_unmarked a n row c e =
    let f = found a n row e in
    let new : Row = record row { color = c } in
    let rows : map unmarked_row (set f.space.rows n.serial.0 (Some new)) ≡ map unmarked_row f.space.rows = map-set_same unmarked_row f.space.rows n.serial.0 (Some new) None (ap unmarked_row (sym f.there)) in
    let one : unmarked_segment (with_row f.space n.serial.0 (Some new)) ≡ unmarked_segment f.space = ap (λ (rs : List (Option Row)). record f.space { rows = rs }) rows in
    let at : get_or a.segments (place_of a.segments n.seg.0) f.space ≡ f.space = get_or_from_slice_get a.segments (place_of a.segments n.seg.0) f.space f.space f.at in
    let all = map-set_same unmarked_segment a.segments (place_of a.segments n.seg.0) (with_row f.space n.serial.0 (Some new)) f.space (one ∙ ap unmarked_segment (sym at)) in
    ap (λ (o : Option SegmentValue). unmarked (with_row_in a n (Some new) o)) f.at
    ∙ ap (λ (segments : List SegmentValue). record { segments = segments; room = a.room }) all
