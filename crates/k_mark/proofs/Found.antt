-- Segments by their numbers, one element of the list after another.
use Rattle.std.proofs.Common.{◌≡◌, ◌≢◌, ◌==◌, ℕ, zero, suc, ◌<◌, refl, sym, ap, ap₂, ◌∙◌, inl, inr, List, [], ◌∷◌, ◌++◌, length, map, get_or, set, slice_get, Some, None, option_map, arith}
use Rattle.std.proofs.lemmas.Bool.{cases_eq, cases_lt}
use Rattle.std.proofs.Math.Seq.{map-set_same}
use Rattle.std.proofs.lemmas.List.Folds.{position_or_len-set}
use Rattle.std.proofs.lemmas.Option.{get_or_from_slice_get, slice_get_within}
use Rattle.k_space.specs.Segments.{SegmentValue, unmarked_segment}
use Rattle.k_space.specs.Areas.{AreaValue, place_of, segment_at, HasDistinct, unmarked}
use Rattle.k_space.proofs.AreaRows.{number_found, slice_get-set_same}
use Rattle.k_space.proofs.Numbers.{distinct_from, distinct_to, none_there, not_there}
use Rattle.k_mark.specs.Shown.{HasNoneFrom, AreNumberedBelow}
use Rattle.k_mark.proofs.KeptMarked.{at_same, at_other}
use Rattle.k_laws.proofs.Lists.{slice_get-set_other}

-- each segment changed, but for its number
pub at_map : (f : SegmentValue → SegmentValue) → ((s : SegmentValue) → (f s).number ≡ s.number) → (xs : List SegmentValue) (k : ℕ) → segment_at (map f xs) k ≡ option_map f (segment_at xs k)
at_map f same [] k = refl
at_map f same (s ∷ ss) k =
    elim (cases_eq s.number k) [
      | inl e ↦ at_same (f s) (map f ss) k (same s ∙ e) ∙ sym (ap (option_map f) (at_same s ss k e))
      | inr ne ↦ at_other (f s) (map f ss) k (λ e. ne (sym (same s) ∙ e)) ∙ at_map f same ss k ∙ sym (ap (option_map f) (at_other s ss k ne))
    ]

-- one segment more
pub at_push_other : (xs : List SegmentValue) (s : SegmentValue) (k : ℕ) → s.number ≢ k → segment_at (xs ++ s ∷ []) k ≡ segment_at xs k
at_push_other [] s k ne = at_other s [] k ne
at_push_other (x ∷ xs) s k ne =
    elim (cases_eq x.number k) [
      | inl e ↦ at_same x (xs ++ s ∷ []) k e ∙ sym (at_same x xs k e)
      | inr d ↦ at_other x (xs ++ s ∷ []) k d ∙ at_push_other xs s k ne ∙ sym (at_other x xs k d)
    ]

pub at_push_same : (xs : List SegmentValue) (s : SegmentValue) → segment_at xs s.number ≡ None → segment_at (xs ++ s ∷ []) s.number ≡ Some s
at_push_same [] s none = at_same s [] s.number refl
at_push_same (x ∷ xs) s none =
    elim (cases_eq x.number s.number) [
      | inl e ↦ let both : None ≡ Some x = sym none ∙ at_same x xs s.number e in absurd (cc)
      | inr d ↦ at_other x (xs ++ s ∷ []) s.number d ∙ at_push_same xs s (sym (at_other x xs s.number d) ∙ none)
    ]

-- another segment of the same number
module _ (xs : List SegmentValue) (n : ℕ) (s t : SegmentValue) (at : segment_at xs n ≡ Some s) (same : t.number ≡ n) where
  inside : place_of xs n < length xs
  inside = slice_get_within xs (place_of xs n) s at

  was : (get_or xs (place_of xs n) s).number ≡ n
  was = ap (λ (x : SegmentValue). x.number) (get_or_from_slice_get xs (place_of xs n) s s at) ∙ number_found xs n s at

  place_same : (k : ℕ) → place_of (set xs (place_of xs n) t) k ≡ place_of xs k
  place_same k = position_or_len-set (λ (x : SegmentValue). x.number == k) xs (place_of xs n) t s (ap (λ m. m == k) (same ∙ sym was))

  pub at_set_same : segment_at (set xs (place_of xs n) t) n ≡ Some t
  at_set_same = ap (slice_get (set xs (place_of xs n) t)) (place_same n) ∙ slice_get-set_same xs (place_of xs n) t inside

  pub at_set_other : (k : ℕ) → k ≢ n → segment_at (set xs (place_of xs n) t) k ≡ segment_at xs k
  at_set_other k ne =
      ap (slice_get (set xs (place_of xs n) t)) (place_same k)
      ∙ slice_get-set_other xs (place_of xs n) (place_of xs k) t (λ e. ne (sym (number_found xs k s (ap (slice_get xs) e ∙ at)) ∙ number_found xs n s at))

-- the rest of a list with distinct numbers
pub distinct_tail : (s : SegmentValue) (ss : List SegmentValue) → HasDistinct (s ∷ ss) → HasDistinct ss
distinct_tail s ss d = distinct_from ss (λ i j t u a b n. omega (arith, distinct_to (s ∷ ss) d (suc i) (suc j) t u a b n))

pub head_gone : (s : SegmentValue) (ss : List SegmentValue) → HasDistinct (s ∷ ss) → segment_at ss s.number ≡ None
head_gone s ss d = none_there ss s.number (λ i t e n. omega (arith, distinct_to (s ∷ ss) d zero (suc i) s t refl e (sym n)))

pub none_tail : (s : SegmentValue) (ss : List SegmentValue) (bound : ℕ) → HasNoneFrom (s ∷ ss) bound → HasNoneFrom ss bound
none_tail s ss bound none number past =
    elim (cases_eq s.number number) [
      | inl e ↦ let both : None ≡ Some s = sym (none number past) ∙ at_same s ss number e in absurd (cc)
      | inr ne ↦ sym (at_other s ss number ne) ∙ none number past
    ]

-- a segment that is found has a number below the bound
pub found_below : (xs : List SegmentValue) (bound k : ℕ) (s : SegmentValue) → HasNoneFrom xs bound → segment_at xs k ≡ Some s → k < bound
found_below xs bound k s none at =
    elim (cases_lt k bound) [
      | inl within ↦ within
      | inr past ↦ let both : None ≡ Some s = sym (none k past) ∙ at in absurd (cc)
    ]

-- one list has a segment of the same number where the other has one
counterpart : (xs ys : List SegmentValue) → map (λ (s : SegmentValue). s.number) ys ≡ map (λ (s : SegmentValue). s.number) xs → (i : ℕ) (s : SegmentValue) → slice_get ys i ≡ Some s →
    (t : SegmentValue) × (slice_get xs i ≡ Some t) × (t.number ≡ s.number)
counterpart xs [] e i s at = absurd (cc)
counterpart [] (y ∷ ys) e i s at = absurd (cc)
counterpart (x ∷ xs) (y ∷ ys) e zero s at =
    let heads : y.number ≡ x.number = cc in
    let same : y ≡ s = cc in
    (x, refl, sym heads ∙ ap (λ (z : SegmentValue). z.number) same)
counterpart (x ∷ xs) (y ∷ ys) e (suc i) s at =
    let tails : map (λ (s : SegmentValue). s.number) ys ≡ map (λ (s : SegmentValue). s.number) xs = cc in
    counterpart xs ys tails i s at

pub same_distinct : (xs ys : List SegmentValue) → map (λ (s : SegmentValue). s.number) ys ≡ map (λ (s : SegmentValue). s.number) xs → HasDistinct xs → HasDistinct ys
same_distinct xs ys e d =
    distinct_from ys (λ i j s t a b n.
    let p = counterpart xs ys e i s a in
    let q = counterpart xs ys e j t b in
    distinct_to xs d i j p.0 q.0 p.1 q.1 (p.2 ∙ n ∙ sym q.2))

pub same_none : (xs ys : List SegmentValue) (bound : ℕ) → map (λ (s : SegmentValue). s.number) ys ≡ map (λ (s : SegmentValue). s.number) xs → HasNoneFrom xs bound → HasNoneFrom ys bound
same_none xs ys bound e none number past =
    none_there ys number (λ i s a n. let p = counterpart xs ys e i s a in not_there xs number (none number past) i p.0 p.1 (p.2 ∙ n))

pub same_numbered : (xs ys : List SegmentValue) (bound : ℕ) → map (λ (s : SegmentValue). s.number) ys ≡ map (λ (s : SegmentValue). s.number) xs → AreNumberedBelow bound xs → AreNumberedBelow bound ys
same_numbered xs ys bound e was = record { distinct = same_distinct xs ys e was.distinct; none = same_none xs ys bound e was.none }

-- numbers that a change leaves
pub map_number : (f : SegmentValue → SegmentValue) → ((s : SegmentValue) → (f s).number ≡ s.number) → (xs : List SegmentValue) → map (λ (s : SegmentValue). s.number) (map f xs) ≡ map (λ (s : SegmentValue). s.number) xs
map_number f same [] = refl
map_number f same (s ∷ ss) = ap₂ (λ n ns. n ∷ ns) (same s) (map_number f same ss)

pub set_number : (xs : List SegmentValue) (n : ℕ) (s t : SegmentValue) → segment_at xs n ≡ Some s → t.number ≡ n → map (λ (s : SegmentValue). s.number) (set xs (place_of xs n) t) ≡ map (λ (s : SegmentValue). s.number) xs
set_number xs n s t at same =
    map-set_same (λ (x : SegmentValue). x.number) xs (place_of xs n) t s (same ∙ sym (ap (λ (x : SegmentValue). x.number) (get_or_from_slice_get xs (place_of xs n) s s at) ∙ number_found xs n s at))

pub unmarked_numbers : (a b : AreaValue) → unmarked a ≡ unmarked b → map (λ (s : SegmentValue). s.number) a.segments ≡ map (λ (s : SegmentValue). s.number) b.segments
unmarked_numbers a b e =
    sym (map_number unmarked_segment (λ s. refl) a.segments)
    ∙ ap (λ (x : AreaValue). map (λ (s : SegmentValue). s.number) x.segments) e
    ∙ map_number unmarked_segment (λ s. refl) b.segments
