-- That references stay inside their segments in an area of many.
use Rattle.std.proofs.Common.{◌≡◌, ◌⊎◌, ℕ, zero, suc, not, true, false, ◌<◌, ◌+◌, refl, sym, ap, subst, ◌∙◌, inl, inr, List, [], ◌∷◌, ◌++◌, map, slice_get, Option, Some, None, is_some, option_map, arith}
use Rattle.std.proofs.lemmas.Bool.{false≢true}
use Rattle.k_types.specs.declared.names.Name.{Name}
use Rattle.k_types.specs.State.{Content}
use Rattle.k_space.specs.Segments.{SegmentValue, Row, unmarked_segment}
use Rattle.k_space.specs.Areas.{AreaValue, HasDistinct, place_of, segment_at, row_of_name, fields_at, is_foreign, grayed, unmarked}
use Rattle.k_exit.specs.Exits.{ExitRow, has_target}
use Rattle.k_mark.specs.Marking.{refers_at}
use Rattle.k_mark.proofs.Marked.{refers_fields}
use Rattle.k_space.proofs.AreaRows.{found, number_found}
use Rattle.k_space.proofs.Numbers.{distinct_from, distinct_to, distinct_push, none_there}
use Rattle.k_measure.specs.Inside.{LeadTo, IsInside, KeepsInside, AreInside}
use Rattle.k_measure.proofs.Inside.{same_fields, lead_to, unmarked_inside, grayed_by}
use Rattle.k_space.proofs.Segs.{unmarked_twice}

pushed_at : (xs : List SegmentValue) (y s : SegmentValue) (i : ℕ) → slice_get (xs ++ y ∷ []) i ≡ Some s → (slice_get xs i ≡ Some s) ⊎ (y ≡ s)
pushed_at [] y s zero e = inr (cc)
pushed_at [] y s (suc i) e = absurd (cc)
pushed_at (x ∷ xs) y s zero e = inl e
pushed_at (x ∷ xs) y s (suc i) e = pushed_at xs y s i e

-- the numbers are below that one
abbrev pub AreBelow : List SegmentValue → ℕ → Type 0
AreBelow xs bound = (i : ℕ) (s : SegmentValue) → slice_get xs i ≡ Some s → s.number < bound

pub new_number : (xs : List SegmentValue) (number : ℕ) → AreBelow xs number → segment_at xs number ≡ None
new_number xs number below = none_there xs number (λ i s at same. omega (arith, below i s at, same))

pub inside_pushed : (xs : List SegmentValue) (y : SegmentValue) → AreInside xs → AreBelow xs y.number → KeepsInside y → AreInside (xs ++ y ∷ [])
inside_pushed xs y are below inside = record {
  distinct = distinct_push xs y are.distinct (new_number xs y.number below);
  each = λ i s at. elim (pushed_at xs y s i at) [ inl old ↦ are.each i s old | inr new ↦ subst (λ (x : SegmentValue). KeepsInside x) new inside ];
}

pub below_pushed : (xs : List SegmentValue) (y : SegmentValue) (bound : ℕ) → AreBelow xs bound → y.number ≡ bound → AreBelow (xs ++ y ∷ []) (bound + 1)
below_pushed xs y bound below is i s at =
    elim (pushed_at xs y s i at) [
      | inl old ↦ omega (arith, below i s old)
      | inr new ↦ omega (arith, is, ap (λ (x : SegmentValue). x.number) new)
    ]

-- what stands in one list beside what stands in another with the same image
paired : (f : SegmentValue → SegmentValue) (xs ys : List SegmentValue) (i : ℕ) (s : SegmentValue) → map f xs ≡ map f ys → slice_get xs i ≡ Some s → (t : SegmentValue) × (slice_get ys i ≡ Some t) × (f s ≡ f t)
paired f [] ys i s same at = absurd (cc)
paired f (x ∷ xs) [] i s same at = absurd (cc)
paired f (x ∷ xs) (y ∷ ys) zero s same at =
    let is : x ≡ s = cc in
    let both : f x ≡ f y = cc in
    (y, refl, ap f (sym is) ∙ both)
paired f (x ∷ xs) (y ∷ ys) (suc i) s same at = let rest : map f xs ≡ map f ys = cc in paired f xs ys i s rest at

pub distinct_same : (a b : AreaValue) → unmarked b ≡ unmarked a → HasDistinct a.segments → HasDistinct b.segments
distinct_same a b same distinct =
    let images : map unmarked_segment b.segments ≡ map unmarked_segment a.segments = ap (λ (x : AreaValue). x.segments) same in
    distinct_from b.segments (λ i j s t at there numbers.
    let p = paired unmarked_segment b.segments a.segments i s images at in
    let q = paired unmarked_segment b.segments a.segments j t images there in
    distinct_to a.segments distinct i j p.0 q.0 p.1 q.1
    (sym (ap (λ (x : SegmentValue). x.number) p.2) ∙ numbers ∙ ap (λ (x : SegmentValue). x.number) q.2))

pub inside_same : (a b : AreaValue) → unmarked b ≡ unmarked a → AreInside a.segments → AreInside b.segments
inside_same a b same are =
    let images : map unmarked_segment b.segments ≡ map unmarked_segment a.segments = ap (λ (x : AreaValue). x.segments) same in
    record {
      distinct = distinct_same a b same are.distinct;
      each = λ i s at. let p = paired unmarked_segment b.segments a.segments i s images at in unmarked_inside p.0 s p.2 (are.each i p.0 p.1);
    }

pub inside_unmarked : (a : AreaValue) → AreInside a.segments → AreInside (unmarked a).segments
inside_unmarked a are = inside_same a (unmarked a) (unmarked_twice a) are

pub inside_grayed : (a : AreaValue) (n : Name) → AreInside a.segments → AreInside (grayed a n).segments
inside_grayed a n are = inside_same a (grayed a n) (grayed_by a n (row_of_name a.segments n) refl) are

-- the segment of an object, whose fields lead into it
into_own : (a : AreaValue) → AreInside a.segments → (m : Name) (fields : List Content) → fields_at a m ≡ Some fields → (s : SegmentValue) × (segment_at a.segments m.seg.0 ≡ Some s) × LeadTo (IsInside s.number) fields
into_own a are m fields e = by_row (row_of_name a.segments m) refl e
  where
    by_row : (o : Option Row) → row_of_name a.segments m ≡ o → option_map (λ (r : Row). r.fields) o ≡ Some fields → (s : SegmentValue) × (segment_at a.segments m.seg.0 ≡ Some s) × LeadTo (IsInside s.number) fields
    by_row None is e = absurd (cc)
    by_row (Some row) is e =
        let f = found a m row is in
        (f.space, f.at, subst (λ (fs : List Content). LeadTo (IsInside f.space.number) fs) (same_fields row.fields fields e) (are.each (place_of a.segments m.seg.0) f.space f.at m.serial.0 row f.there))

own_only : (a : AreaValue) → AreInside a.segments → (m n : Name) → refers_at a m n ≡ true → is_foreign a n ≡ false
own_only a are m n e =
    let r = refers_fields a m n e in
    let o = into_own a are m r.0 r.1 in
    let number : n.seg.0 ≡ m.seg.0 = lead_to (IsInside o.0.number) r.0 o.2 n r.2 ∙ number_found a.segments m.seg.0 o.0 o.1 in
    ap (λ (x : Option SegmentValue). not (is_some x)) (ap (segment_at a.segments) number ∙ o.1)

pub exits_there : (a : AreaValue) (exits : List ExitRow) → AreInside a.segments → (m n : Name) → refers_at a m n ≡ true → is_foreign a n ≡ true → has_target exits n ≡ true
exits_there a exits are m n refers far = absurd (false≢true (sym (own_only a are m n refers) ∙ far))
