-- Segments with distinct numbers.
use Rattle.std.proofs.Common.{◌≡◌, ◌≢◌, ◌==◌, ℕ, zero, suc, ◌+◌, ◌-◌, ◌<◌, ◌≤◌, ◌⊎◌, true, false, refl, sym, ap, ◌∙◌, inl, inr, List, [], ◌∷◌, ◌++◌, length, get_or, slice_get, Option, Some, None, eq-eqb, arith}
use Rattle.std.specs.List.{position_or_len}
use Rattle.std.proofs.lemmas.Bool.{cases_eq, cases_lt, false≢true}
use Rattle.std.proofs.lemmas.List.Sums.{fails_before_first}
use Rattle.std.proofs.lemmas.Option.{get_or_from_slice_get, slice_get_within, slice_get-get_or}
use Rattle.k_space.specs.Segments.{SegmentValue}
use Rattle.k_space.specs.Areas.{place_of, segment_at, HasDistinct}
use Rattle.k_space.proofs.AreaRows.{number_found}

-- the first segment of a number stands no later than any
pub first_within : (xs : List SegmentValue) (i k : ℕ) (s : SegmentValue) → slice_get xs i ≡ Some s → s.number ≡ k → position_or_len (λ (x : SegmentValue). x.number == k) xs ≤ i
first_within xs i k s e n =
    elim (cases_lt i (position_or_len (λ (x : SegmentValue). x.number == k) xs)) [
      | inr within ↦ within
      | inl before ↦
          let off : ((get_or xs i s).number == k) ≡ false = fails_before_first (λ (x : SegmentValue). x.number == k) xs i s before in
          let on : ((get_or xs i s).number == k) ≡ true = ap (λ (x : SegmentValue). x.number == k) (get_or_from_slice_get xs i s s e) ∙ eq-eqb s.number k n in
          absurd (false≢true (sym off ∙ on))
    ]

-- a segment of the list is found by its number
pub found_first : (xs : List SegmentValue) (i : ℕ) (s : SegmentValue) → slice_get xs i ≡ Some s → (t : SegmentValue) × (segment_at xs s.number ≡ Some t) × (t.number ≡ s.number)
found_first xs i s e =
    let at = first_within xs i s.number s e refl in
    let within = slice_get_within xs i s e in
    let there = slice_get-get_or xs (place_of xs s.number) s (omega (arith, at, within)) in
    (get_or xs (place_of xs s.number) s, there, number_found xs s.number (get_or xs (place_of xs s.number) s) there)

pub not_there : (xs : List SegmentValue) (k : ℕ) → segment_at xs k ≡ None → (i : ℕ) (s : SegmentValue) → slice_get xs i ≡ Some s → s.number ≢ k
not_there xs k none i s e n =
    let t = found_first xs i s e in
    let both : None ≡ Some t.0 = sym none ∙ ap (segment_at xs) (sym n) ∙ t.1 in
    cc

pub none_there : (xs : List SegmentValue) (k : ℕ) → ((i : ℕ) (s : SegmentValue) → slice_get xs i ≡ Some s → s.number ≢ k) → segment_at xs k ≡ None
none_there xs k not = by_found (segment_at xs k) refl
  where
    by_found : (o : Option SegmentValue) → segment_at xs k ≡ o → segment_at xs k ≡ None
    by_found None e = e
    by_found (Some s) e = absurd (not (place_of xs k) s e (number_found xs k s e))

-- distinct numbers, by two places
pub distinct_from : (xs : List SegmentValue) → ((i j : ℕ) (s t : SegmentValue) → slice_get xs i ≡ Some s → slice_get xs j ≡ Some t → s.number ≡ t.number → i ≡ j) → HasDistinct xs
distinct_from xs h i s e =
    let t = found_first xs i s e in
    h (place_of xs s.number) i t.0 s t.1 e t.2

pub distinct_to : (xs : List SegmentValue) → HasDistinct xs → (i j : ℕ) (s t : SegmentValue) → slice_get xs i ≡ Some s → slice_get xs j ≡ Some t → s.number ≡ t.number → i ≡ j
distinct_to xs h i j s t a b n = sym (h i s a) ∙ ap (place_of xs) n ∙ h j t b

pub found_at : (xs : List SegmentValue) → HasDistinct xs → (i : ℕ) (s : SegmentValue) → slice_get xs i ≡ Some s → segment_at xs s.number ≡ Some s
found_at xs h i s e = ap (slice_get xs) (h i s e) ∙ e

pushed_at : (xs : List SegmentValue) (y : SegmentValue) (i : ℕ) (s : SegmentValue) → slice_get (xs ++ y ∷ []) i ≡ Some s → (slice_get xs i ≡ Some s) ⊎ ((i ≡ length xs) × (y ≡ s))
pushed_at [] y zero s e = inr (refl, cc)
pushed_at [] y (suc i) s e = absurd (cc)
pushed_at (x ∷ xs) y zero s e = inl e
pushed_at (x ∷ xs) y (suc i) s e = elim (pushed_at xs y i s e) [ inl h ↦ inl h | inr h ↦ inr (ap suc h.0, h.1) ]

-- one segment more
pub distinct_push : (xs : List SegmentValue) (y : SegmentValue) → HasDistinct xs → segment_at xs y.number ≡ None → HasDistinct (xs ++ y ∷ [])
distinct_push xs y h none = distinct_from (xs ++ y ∷ []) both
  where
    both : (i j : ℕ) (s t : SegmentValue) → slice_get (xs ++ y ∷ []) i ≡ Some s → slice_get (xs ++ y ∷ []) j ≡ Some t → s.number ≡ t.number → i ≡ j
    both i j s t a b n =
        elim (pushed_at xs y i s a) [
          | inl p ↦ elim (pushed_at xs y j t b) [
            | inl q ↦ distinct_to xs h i j s t p q n
            | inr q ↦ absurd (not_there xs y.number none i s p (n ∙ sym (ap (λ (x : SegmentValue). x.number) q.1)))
          ]
          | inr p ↦ elim (pushed_at xs y j t b) [
            | inl q ↦ absurd (not_there xs y.number none j t q (sym n ∙ sym (ap (λ (x : SegmentValue). x.number) p.1)))
            | inr q ↦ p.0 ∙ sym q.0
          ]
        ]

-- the list without the one at i, in whose place the last one is
pub record IsWithout {A : Type 0} (xs ys : List A) (i : ℕ) : Type 0 where
  pub len : length ys + 1 ≡ length xs
  pub within : i < length xs
  pub moved : (d : A) → i + 1 < length xs → get_or ys i d ≡ get_or xs (length xs - 1) d
  pub others : (k : ℕ) (d : A) → k ≢ i → k + 1 < length xs → get_or ys k d ≡ get_or xs k d

-- what taking one out leaves, where so many were there
pub swapped : {A : Type 0} (xs ys : List A) (i m n : ℕ) → m ≡ length xs → n ≡ length ys → n + 1 ≡ m → i < length xs →
    ((d : A) → i + 1 < m → get_or ys i d ≡ get_or xs (m - 1) d) × ((k : ℕ) (d : A) → k ≢ i → k + 1 < m → get_or ys k d ≡ get_or xs k d) → IsWithout xs ys i
swapped xs ys i m n old new fewer within by_index = record {
  len = omega (arith, old, new, fewer);
  within = within;
  moved = λ d more. by_index.0 d (omega (arith, more, old)) ∙ ap (λ k. get_or xs (k - 1) d) old;
  others = λ k d apart more. by_index.1 k d apart (omega (arith, more, old));
}

-- where each came from
pub record Origin (xs : List SegmentValue) (i j : ℕ) (s : SegmentValue) : Type 0 where
  pub k : ℕ
  pub at : slice_get xs k ≡ Some s
  pub apart : k ≢ i
  pub back : ((k ≡ j) × (j + 1 < length xs)) ⊎ ((k + 1 ≡ length xs) × (j ≡ i))

pub origin : (xs ys : List SegmentValue) (i j : ℕ) (s : SegmentValue) → IsWithout xs ys i → slice_get ys j ≡ Some s → Origin xs i j s
origin xs ys i j s w e =
    let within = slice_get_within ys j s e in
    let got : get_or ys j s ≡ s = get_or_from_slice_get ys j s s e in
    elim (cases_eq j i) [
      | inl same ↦
          let more : i + 1 < length xs = omega (arith, within, w.len, same) in
          let from : get_or xs (length xs - 1) s ≡ s = sym (w.moved s more) ∙ ap (λ k. get_or ys k s) (sym same) ∙ got in
          record {
            k = length xs - 1;
            at = slice_get-get_or xs (length xs - 1) s (omega (arith, more)) ∙ ap Some from;
            apart = λ e. omega (arith, more, e);
            back = inr (omega (arith, more), same);
          }
      | inr differs ↦
          let more : j + 1 < length xs = omega (arith, within, w.len) in
          let from : get_or xs j s ≡ s = sym (w.others j s differs more) ∙ got in
          record { k = j; at = slice_get-get_or xs j s (omega (arith, more)) ∙ ap Some from; apart = differs; back = inl (refl, more) }
    ]

one_origin : (xs : List SegmentValue) (i j l : ℕ) (s t : SegmentValue) (a : Origin xs i j s) (b : Origin xs i l t) → a.k ≡ b.k → j ≡ l
one_origin xs i j l s t a b same =
    elim a.back [
      | inl p ↦ elim b.back [ inl q ↦ omega (arith, p.0, q.0, same) | inr q ↦ absurd (omega (arith, p.0, p.1, q.0, same)) ]
      | inr p ↦ elim b.back [ inl q ↦ absurd (omega (arith, p.0, q.0, q.1, same)) | inr q ↦ omega (arith, p.1, q.1) ]
    ]

pub distinct_without : (xs ys : List SegmentValue) (i : ℕ) → IsWithout xs ys i → HasDistinct xs → HasDistinct ys
distinct_without xs ys i w h =
    distinct_from ys (λ j l s t a b n.
    let p = origin xs ys i j s w a in
    let q = origin xs ys i l t w b in
    one_origin xs i j l s t p q (distinct_to xs h p.k q.k s t p.at q.at n))

-- the one taken is gone
pub gone_without : (xs ys : List SegmentValue) (i : ℕ) (s : SegmentValue) → IsWithout xs ys i → HasDistinct xs → slice_get xs i ≡ Some s → segment_at ys s.number ≡ None
gone_without xs ys i s w h at =
    none_there ys s.number (λ j t e n. let p = origin xs ys i j t w e in p.apart (distinct_to xs h p.k i t s p.at at n))

-- and each other is there as it was
pub kept_without : (xs ys : List SegmentValue) (i k : ℕ) (s : SegmentValue) → IsWithout xs ys i → HasDistinct xs → slice_get xs i ≡ Some s → k ≢ s.number → segment_at ys k ≡ segment_at xs k
kept_without xs ys i k s w h at differs = by_found (segment_at xs k) refl
  where
    here : (t : SegmentValue) (j : ℕ) → slice_get ys j ≡ Some t → t.number ≡ k → segment_at ys k ≡ Some t
    here t j e n = ap (segment_at ys) (sym n) ∙ found_at ys (distinct_without xs ys i w h) j t e

    by_found : (o : Option SegmentValue) → segment_at xs k ≡ o → segment_at ys k ≡ segment_at xs k
    by_found None e =
        none_there ys k (λ j t f n. let p = origin xs ys i j t w f in not_there xs k e p.k t p.at n) ∙ sym e
    by_found (Some t) e =
        let number = number_found xs k t e in
        let p = place_of xs k in
        let within = slice_get_within xs p t e in
        let got : get_or xs p t ≡ t = get_or_from_slice_get xs p t t e in
        let apart : p ≢ i = λ same. differs (sym number ∙ ap (λ (x : SegmentValue). x.number) (same_segment (sym e ∙ ap (slice_get xs) same ∙ at))) in
        elim (cases_eq (p + 1) (length xs)) [
          | inl last ↦
              let more : i + 1 < length xs = omega (arith, w.within, last, apart) in
              let e1 : length xs - 1 ≡ p = omega (arith, last) in
              let from : get_or ys i t ≡ t = w.moved t more ∙ ap (λ q. get_or xs q t) e1 ∙ got in
              here t i (slice_get-get_or ys i t (omega (arith, more, w.len)) ∙ ap Some from) number ∙ sym e
          | inr inner ↦
              let more : p + 1 < length xs = omega (arith, within, inner) in
              let from : get_or ys p t ≡ t = w.others p t apart more ∙ got in
              here t p (slice_get-get_or ys p t (omega (arith, more, w.len)) ∙ ap Some from) number ∙ sym e
        ]
      where
        same_segment : {x y : SegmentValue} → ◌≡◌ {A = Option SegmentValue} (Some x) (Some y) → x ≡ y
        same_segment e = cc
