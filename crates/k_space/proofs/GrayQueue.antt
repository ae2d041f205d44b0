-- The last gray place, and a place that becomes gray after it.
use Rattle.std.proofs.Common.{◌≡◌, ◌≢◌, ℕ, zero, suc, ◌<◌, true, false, refl, sym, ap, subst, ◌∙◌, inl, inr, List, [], ◌∷◌, ◌++◌, length, map, get_or, set, count_by, arith}
use Rattle.std.proofs.Math.ListN.{get_or-map}
use Rattle.std.proofs.lemmas.Bool.{cases_eq}
use Rattle.std.proofs.lemmas.List.{get_or-set_same, get_or-set_other, length-set}
use Rattle.k_space.specs.declared.marks.Place.{Place}
use Rattle.k_space.specs.declared.marks.Place.TheVariants.{Empty, At}
use Rattle.k_space.specs.declared.marks.Mark.TheVariants.{White, Gray}
use Rattle.k_space.specs.Places.{IsGrayList, IsGrayEnd, IsLastGray, is_gray_place, white_place}
use Rattle.k_space.proofs.GrayLists.{At_inside, same_next, none_gray, no_head, count-set, bit}
use Rattle.k_space.proofs.Pushed.{at_pushed}

-- another place that is not gray
pub last_set : (places : List Place) (last i : ℕ) (x : Place) → IsLastGray places last → i < length places → is_gray_place x ≡ false → IsLastGray (set places i x) last
last_set places last i x was within plain = λ j slot e.
    elim (cases_eq j i) [
      | inl same ↦
          let here : x ≡ At slot (Gray 0) = sym (get_or-set_same places i x Empty within) ∙ ap (λ k. get_or (set places i x) k Empty) (sym same) ∙ e in
          let gray : is_gray_place x ≡ true = ap is_gray_place here in
          absurd (cc)
      | inr differs ↦ was j slot (sym (get_or-set_other places i j x Empty differs) ∙ e)
    ]

pub last_pushed : (places : List Place) (last s : ℕ) → IsLastGray places last → IsLastGray (places ++ At s White ∷ []) last
last_pushed places last s was = λ j slot e.
    elim (at_pushed places (At s White) j slot (Gray 0) e) [
      | inl there ↦ was j slot there
      | inr here ↦ let both : At s White ≡ At slot (Gray 0) = here.1 in absurd (cc)
    ]

white_plain : (p : Place) (slot : ℕ) → white_place p ≡ At slot (Gray 0) → ⊥
white_plain Empty slot e = cc
white_plain (At s m) slot e = cc

pub last_whitened : (places : List Place) (last : ℕ) → IsLastGray (map white_place places) last
last_whitened places last = λ j slot e. absurd (white_plain (get_or places j Empty) slot (sym (get_or-map white_place places j Empty) ∙ e))

-- the first gray place
pub last_alone : (places : List Place) (i s : ℕ) → IsGrayList places (count_by is_gray_place places) 0 → i < length places → IsLastGray (set places i (At s (Gray 0))) i
last_alone places i s none within = λ j slot e.
    elim (cases_eq j i) [
      | inl same ↦ same
      | inr differs ↦
          let here : get_or places j Empty ≡ At slot (Gray 0) = sym (get_or-set_other places i j (At s (Gray 0)) Empty differs) ∙ e in
          let gray : is_gray_place (get_or places j Empty) ≡ true = ap is_gray_place here in
          let plain : is_gray_place (get_or places j Empty) ≡ false = none_gray places (no_head places (count_by is_gray_place places) none) j in
          absurd (cc)
    ]

-- a list that is not empty ends at the last gray place
end_of : (places : List Place) (n head last : ℕ) → IsGrayList places (suc n) head → IsLastGray places last → IsGrayEnd places last
end_of places zero head last (some, s, next, here, rest) ends =
    let at : get_or places head Empty ≡ At s (Gray 0) = here ∙ ap (λ k. At s (Gray k)) rest in
    record { slot = s; there = ap (λ k. get_or places k Empty) (sym (ends head s at)) ∙ at }
end_of places (suc n) head last (some, s, next, here, rest) ends = end_of places n next last rest ends

pub gray_end : (places : List Place) (n head last : ℕ) → 0 < head → IsGrayList places n head → IsLastGray places last → IsGrayEnd places last
gray_end places zero head last some p ends = absurd (omega (arith, some, p))
gray_end places (suc n) head last some p ends = end_of places n head last p ends

-- a place that becomes gray behind the last one
module _ (places : List Place) (last i s l : ℕ) (ends : IsLastGray places last) (there : get_or places last Empty ≡ At l (Gray 0)) (plain : is_gray_place (get_or places i Empty) ≡ false) (first : 0 < i) (within : i < length places) where
  gray_not : (j slot next : ℕ) → get_or places j Empty ≡ At slot (Gray next) → j ≢ i
  gray_not j slot next e = λ same.
      let gray : is_gray_place (get_or places j Empty) ≡ true = ap is_gray_place e in
      let not : is_gray_place (get_or places j Empty) ≡ false = ap (λ k. is_gray_place (get_or places k Empty)) same ∙ plain in
      absurd (cc)

  apart : last ≢ i
  apart = gray_not last l 0 there

  other_way : i ≢ last
  other_way = λ e. apart (sym e)

  inside : last < length (set places i (At s (Gray 0)))
  inside = omega (arith, length-set places i (At s (Gray 0)), At_inside places last l (Gray 0) there)

  pub still : get_or (set places i (At s (Gray 0))) last Empty ≡ At l (Gray 0)
  still = get_or-set_other places i last (At s (Gray 0)) Empty apart ∙ there

  at_last : get_or (set (set places i (At s (Gray 0))) last (At l (Gray i))) last Empty ≡ At l (Gray i)
  at_last = get_or-set_same (set places i (At s (Gray 0))) last (At l (Gray i)) Empty inside

  at_new : get_or (set (set places i (At s (Gray 0))) last (At l (Gray i))) i Empty ≡ At s (Gray 0)
  at_new = get_or-set_other (set places i (At s (Gray 0))) last i (At l (Gray i)) Empty other_way ∙ get_or-set_same places i (At s (Gray 0)) Empty within

  at_other : (j : ℕ) → j ≢ i → j ≢ last → get_or (set (set places i (At s (Gray 0))) last (At l (Gray i))) j Empty ≡ get_or places j Empty
  at_other j a b = get_or-set_other (set places i (At s (Gray 0))) last j (At l (Gray i)) Empty b ∙ get_or-set_other places i j (At s (Gray 0)) Empty a

  -- where another follows, the place is not the last
  not_last : (j slot next : ℕ) → get_or places j Empty ≡ At slot (Gray next) → 0 < next → j ≢ last
  not_last j slot next e some = λ same.
      let none : next ≡ 0 = same_next places j slot l next 0 e (ap (λ k. get_or places k Empty) same ∙ there) in
      omega (arith, some, none)

  appended : (n head : ℕ) → IsGrayList places (suc n) head → IsGrayList (set (set places i (At s (Gray 0))) last (At l (Gray i))) (suc (suc n)) head
  appended zero head (some, slot, next, here, rest) =
      let at : get_or places head Empty ≡ At slot (Gray 0) = here ∙ ap (λ k. At slot (Gray k)) rest in
      let is : head ≡ last = ends head slot at in
      (some, l, i, ap (λ k. get_or (set (set places i (At s (Gray 0))) last (At l (Gray i))) k Empty) is ∙ at_last, (first, s, 0, at_new, refl))
  appended (suc n) head (some, slot, next, here, rest) =
      (some, slot, next, at_other head (gray_not head slot next here) (not_last head slot next here rest.0) ∙ here, appended n next rest)

  counted : count_by is_gray_place (set (set places i (At s (Gray 0))) last (At l (Gray i))) ≡ suc (count_by is_gray_place places)
  counted =
      let off : bit (is_gray_place (get_or places i Empty)) ≡ 0 = ap bit plain in
      let on : bit (is_gray_place (get_or (set places i (At s (Gray 0))) last Empty)) ≡ 1 = ap (λ p. bit (is_gray_place p)) still in
      omega (arith, off, on, count-set places i (At s (Gray 0)) within, count-set (set places i (At s (Gray 0))) last (At l (Gray i)) inside)

  pub queued : (n head : ℕ) → n ≡ count_by is_gray_place places → 0 < head → IsGrayList places n head →
      IsGrayList (set (set places i (At s (Gray 0))) last (At l (Gray i))) (count_by is_gray_place (set (set places i (At s (Gray 0))) last (At l (Gray i)))) head
  queued zero head all some p = absurd (omega (arith, some, p))
  queued (suc n) head all some p =
      let count : suc (suc n) ≡ count_by is_gray_place (set (set places i (At s (Gray 0))) last (At l (Gray i))) = omega (arith, all, counted) in
      subst (λ (k : ℕ). IsGrayList (set (set places i (At s (Gray 0))) last (At l (Gray i))) k head) count (appended n head p)

  pub last_queued : IsLastGray (set (set places i (At s (Gray 0))) last (At l (Gray i))) i
  last_queued = λ j slot e.
      elim (cases_eq j i) [
        | inl same ↦ same
        | inr differs ↦
            elim (cases_eq j last) [
              | inl at ↦
                  let here : At l (Gray i) ≡ At slot (Gray 0) = sym at_last ∙ ap (λ k. get_or (set (set places i (At s (Gray 0))) last (At l (Gray i))) k Empty) (sym at) ∙ e in
                  let none : i ≡ 0 = cc in
                  absurd (omega (arith, first, none))
              | inr away ↦ absurd (away (ends j slot (sym (at_other j differs away) ∙ e)))
            ]
      ]
