-- One segment after another is swept.
use Rattle.std.proofs.Common.{◌≡◌, ◌==◌, ℕ, zero, suc, ◌+◌, ◌<◌, ◌≤◌, refl, sym, ap, ap₂, ◌∙◌, inl, inr, List, [], ◌∷◌, ◌++◌, length, map, take, drop, get_or, set, slice_get, sum_by, Some, add-one, arith}
use Rattle.std.proofs.lemmas.Bool.{cases_eq}
use Rattle.std.proofs.lemmas.List.Edits.{map_over_more}
use Rattle.std.proofs.lemmas.List.Folds.{position_or_len-set}
use Rattle.std.proofs.lemmas.List.Sums.{sum_by-cons}
use Rattle.std.proofs.lemmas.Option.{slice_get-get_or, slice_get_within, get_or_from_slice_get}
use Rattle.k_exit.proofs.BaseLists.{some_one, slice_get-set_other}
use Rattle.k_space.specs.Segments.{SegmentValue}
use Rattle.k_space.specs.Areas.{place_of, segment_at, HasDistinct}
use Rattle.k_space.proofs.AreaRows.{slice_get-set_same}
use Rattle.k_mark.specs.Sweeping.{swept_segment}

abbrev blank : SegmentValue
blank = record { number = 0; room = 0; rows = [] }

-- what comes next is as it was
front_next : {A : Type 0} (f : A → A) (xs : List A) (i : ℕ) → slice_get (map f (take i xs) ++ drop i xs) i ≡ slice_get xs i
front_next f [] zero = refl
front_next f [] (suc i) = refl
front_next f (x ∷ xs) zero = refl
front_next f (x ∷ xs) (suc i) = front_next f xs i

-- the segment at place i, which is the next to be swept
pub record IsNext (old now : List SegmentValue) (i : ℕ) : Type 0 where
  pub s : SegmentValue
  pub was : slice_get old i ≡ Some s
  pub is : slice_get now i ≡ Some s
  pub place : place_of now s.number ≡ i
  pub found : segment_at now s.number ≡ Some s

pub next_one : (old now : List SegmentValue) (i : ℕ) → now ≡ map swept_segment (take i old) ++ drop i old → HasDistinct now → i < length old → IsNext old now i
next_one old now i e distinct within =
    let s = get_or old i blank in
    let was : slice_get old i ≡ Some (get_or old i blank) = slice_get-get_or old i blank within in
    let is : slice_get now i ≡ Some (get_or old i blank) = ap (λ (xs : List SegmentValue). slice_get xs i) e ∙ front_next swept_segment old i ∙ was in
    let place = distinct i (get_or old i blank) is in
    record { s = get_or old i blank; was = was; is = is; place = place; found = ap (slice_get now) place ∙ is }

-- another segment of the same number leaves the numbers distinct
pub distinct_set : (xs : List SegmentValue) (i : ℕ) (s t : SegmentValue) → HasDistinct xs → slice_get xs i ≡ Some s → t.number ≡ s.number → HasDistinct (set xs i t)
distinct_set xs i s t distinct at same j u e =
    position_or_len-set (λ (x : SegmentValue). x.number == u.number) xs i t s (ap (λ n. n == u.number) (same ∙ sym (ap (λ (x : SegmentValue). x.number) (get_or_from_slice_get xs i s s at))))
    ∙ elim (cases_eq j i) [
      | inl is ↦
          let one : t ≡ u = some_one (sym (slice_get-set_same xs i t (slice_get_within xs i s at)) ∙ ap (slice_get (set xs i t)) (sym is) ∙ e) in
          ap (place_of xs) (sym (ap (λ (x : SegmentValue). x.number) one) ∙ same) ∙ distinct i s at ∙ sym is
      | inr differs ↦ distinct j u (sym (slice_get-set_other xs i j t differs) ∙ e)
    ]

pub swept_more : (old now : List SegmentValue) (i place : ℕ) (t : SegmentValue) (n : IsNext old now i) → now ≡ map swept_segment (take i old) ++ drop i old → place ≡ i → t ≡ swept_segment n.s →
    set now place t ≡ map swept_segment (take (i + 1) old) ++ drop (i + 1) old
swept_more old now i place t n e at is =
    ap₂ (λ k (x : SegmentValue). set now k x) at is
    ∙ map_over_more swept_segment old now i n.s (slice_get_within old i n.s n.was) e (sym (get_or_from_slice_get now i n.s n.s n.is))

-- sums over the first segments
pub sum_more : (f : SegmentValue → ℕ) (xs : List SegmentValue) (i : ℕ) (s : SegmentValue) → slice_get xs i ≡ Some s → sum_by f (take (i + 1) xs) ≡ sum_by f (take i xs) + f s
sum_more f xs i s e = ap (λ k. sum_by f (take k xs)) (add-one i) ∙ by_place xs i e
  where
    by_place : (xs : List SegmentValue) (i : ℕ) → slice_get xs i ≡ Some s → sum_by f (take (suc i) xs) ≡ sum_by f (take i xs) + f s
    by_place [] i e = absurd (cc)
    by_place (x ∷ xs) zero e = let same : x ≡ s = cc in let here : f x ≡ f s = ap f same in omega (arith, sum_by-cons f x [], here)
    by_place (x ∷ xs) (suc i) e = omega (arith, sum_by-cons f x (take (suc i) xs), sum_by-cons f x (take i xs), by_place xs i e)

pub sum_within : (f : SegmentValue → ℕ) (xs : List SegmentValue) (i : ℕ) → sum_by f (take i xs) ≤ sum_by f xs
sum_within f [] zero = omega arith
sum_within f [] (suc i) = omega arith
sum_within f (x ∷ xs) zero = omega arith
sum_within f (x ∷ xs) (suc i) = omega (arith, sum_by-cons f x (take i xs), sum_by-cons f x xs, sum_within f xs i)
