-- Sums over the objects of an area, by their names.
use Rattle.std.proofs.Common.{◌≡◌, ℕ, suc, ◌+◌, false, cond, refl, sym, ap, ◌∙◌, List, [], ◌∷◌, get_or, slice_get, sum_by, count_by, Option, Some, None, arith}
use Rattle.std.proofs.lemmas.List.Sums.{sum_by-cons}
use Rattle.std.proofs.lemmas.Bool.{false≢true}
use Rattle.k_laws.specs.k_types.declared.names.Name.{Name}
use Rattle.k_space.specs.Segments.{Row, SegmentValue, Color, White, Gray, Black, row_at, some_gray, some_black, is_gray, is_black, is_marked}
use Rattle.k_space.specs.Areas.{AreaValue, HasDistinct, row_in_segment, row_of_name, gray_at, black_at, rows_total}
use Rattle.k_space.proofs.Numbers.{found_at}
use Rattle.k_mark.specs.Marking.{is_ref, row_work, work}
use Rattle.k_mark.proofs.Left.{black_row, black_work}

same_rows : (f g : Option Row → ℕ) (rows : List (Option Row)) → ((serial : ℕ) → f (get_or rows serial None) ≡ g (get_or rows serial None)) → sum_by f rows ≡ sum_by g rows
same_rows f g [] same = refl
same_rows f g (r ∷ rs) same = omega (arith, sum_by-cons f r rs, sum_by-cons g r rs, same 0, same_rows f g rs (λ serial. same (suc serial)))

same_segments : (f g : Option Row → ℕ) (segments : List SegmentValue) → ((i : ℕ) (s : SegmentValue) → slice_get segments i ≡ Some s → (serial : ℕ) → f (row_at s serial) ≡ g (row_at s serial)) →
    sum_by (λ (s : SegmentValue). sum_by f s.rows) segments ≡ sum_by (λ (s : SegmentValue). sum_by g s.rows) segments
same_segments f g [] same = refl
same_segments f g (s ∷ ss) same =
    omega (arith, sum_by-cons (λ (t : SegmentValue). sum_by f t.rows) s ss, sum_by-cons (λ (t : SegmentValue). sum_by g t.rows) s ss, same_rows f g s.rows (same 0 s refl), same_segments f g ss (λ i t e. same (suc i) t e))

abbrev named : ℕ → ℕ → Name
named seg serial = record { seg = record { 0 = seg }; serial = record { 0 = serial } }

-- sums of what agrees at each name
pub same_total : (f g : Option Row → ℕ) (a : AreaValue) → HasDistinct a.segments → ((n : Name) → f (row_of_name a.segments n) ≡ g (row_of_name a.segments n)) → rows_total f a ≡ rows_total g a
same_total f g a distinct same =
    same_segments f g a.segments (λ i s e serial.
    let there : row_of_name a.segments (named s.number serial) ≡ row_at s serial = ap (λ (o : Option SegmentValue). row_in_segment o serial) (found_at a.segments distinct i s e) in
    ap f (sym there) ∙ same (named s.number serial) ∙ ap g there)

no_rows : (rows : List (Option Row)) → sum_by (λ (o : Option Row). 0) rows ≡ 0
no_rows [] = refl
no_rows (r ∷ rs) = omega (arith, sum_by-cons (λ (o : Option Row). 0) r rs, no_rows rs)

no_segments : (segments : List SegmentValue) → sum_by (λ (s : SegmentValue). sum_by (λ (o : Option Row). 0) s.rows) segments ≡ 0
no_segments [] = refl
no_segments (s ∷ ss) = omega (arith, sum_by-cons (λ (t : SegmentValue). sum_by (λ (o : Option Row). 0) t.rows) s ss, no_rows s.rows, no_segments ss)

-- where nothing is black nothing was done
pub none_black : (a : AreaValue) → HasDistinct a.segments → ((n : Name) → black_at a n ≡ false) → black_work a ≡ 0
none_black a distinct clean = same_total black_row (λ o. 0) a distinct (λ n. by_row (row_of_name a.segments n) (clean n)) ∙ no_segments a.segments
  where
    by_row : (o : Option Row) → some_black o ≡ false → black_row o ≡ 0
    by_row None e = refl
    by_row (Some row) e = ap (λ b. cond b (count_by is_ref row.fields + 1) 0) e

-- where nothing is gray the marked objects are the black ones
pub work_is : (a : AreaValue) → HasDistinct a.segments → ((n : Name) → gray_at a n ≡ false) → black_work a ≡ work a
work_is a distinct none = same_total black_row row_work a distinct (λ n. by_row (row_of_name a.segments n) (none n))
  where
    by_color : (c : Color) (n : ℕ) → is_gray c ≡ false → cond (is_black c) n 0 ≡ cond (is_marked c) n 0
    by_color White n e = refl
    by_color Gray n e = absurd (false≢true (sym e))
    by_color Black n e = refl

    by_row : (o : Option Row) → some_gray o ≡ false → black_row o ≡ row_work o
    by_row None e = refl
    by_row (Some row) e = by_color row.color (count_by is_ref row.fields + 1) e
