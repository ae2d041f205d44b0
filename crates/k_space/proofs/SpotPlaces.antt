-- The places that spots keep, as relations on serials and marks by slot.
use Rattle.std.proofs.Common.{◌≡◌, ◌≢◌, ◌==◌, ℕ, zero, suc, ◌+◌, ◌<◌, Bool, true, false, cond, refl, sym, ap, ap₂, subst, ◌∙◌, inl, inr, List, [], ◌∷◌, ◌++◌, length, map, get_or, set, eqb-true, add-one, arith}
use Rattle.std.proofs.Math.ListN.{get_or-map}
use Rattle.std.proofs.lemmas.Bool.{cases_eq, eqb-false}
use Rattle.std.proofs.lemmas.List.{ext_get_or, get_or-set_same, get_or-set_other, get_or_append_left, get_or_push, length-append, length-map, length-set}
use Rattle.k_space.specs.declared.marks.Place.{Place}
use Rattle.k_space.specs.declared.marks.Place.TheVariants.{Empty, At}
use Rattle.k_space.specs.declared.marks.Mark.{Mark}
use Rattle.k_space.specs.declared.marks.Mark.TheVariants.{White}
use Rattle.k_space.specs.Places.{white_place}
use Rattle.k_space.specs.Stamps.{place_below, place_of, places_of}
use Rattle.k_space.proofs.GrayLists.{At_inside}

-- no two slots have one serial
abbrev pub AreApart : (ℕ → ℕ) → Type 0
AreApart serial = (s t : ℕ) → serial s ≡ serial t → 0 < serial s → s ≡ t

-- the place of that serial
abbrev pub IsPlaceOf : (ℕ → ℕ) → (ℕ → Mark) → ℕ → Place → Type 0
IsPlaceOf serial mark wanted Empty = (slot : ℕ) → serial slot ≡ wanted → wanted ≡ 0
IsPlaceOf serial mark wanted (At slot m) = (0 < wanted) × (serial slot ≡ wanted) × (mark slot ≡ m)

-- the places of all serials given
pub record ArePlaces (serial : ℕ → ℕ) (mark : ℕ → Mark) (made : ℕ) (items : List Place) : Type 0 where
  pub len : length items ≡ made
  pub each : (wanted : ℕ) → wanted < made → IsPlaceOf serial mark wanted (get_or items wanted Empty)

place_below_is : (serial : ℕ → ℕ) (mark : ℕ → Mark) (wanted n : ℕ) → 0 < wanted → ((t : ℕ) → serial t ≡ wanted → t < n) → IsPlaceOf serial mark wanted (place_below serial mark wanted n)
place_below_is serial mark wanted zero some within = λ t is. let past : t < 0 = within t is in absurd (omega (arith, past))
place_below_is serial mark wanted (suc n) some within = by_test (serial n == wanted) refl (place_below_is serial mark wanted n some)
  where
    by_test : (b : Bool) → (serial n == wanted) ≡ b → (((t : ℕ) → serial t ≡ wanted → t < n) → IsPlaceOf serial mark wanted (place_below serial mark wanted n)) → IsPlaceOf serial mark wanted (cond b (At n (mark n)) (place_below serial mark wanted n))
    by_test true e rest = (some, eqb-true (serial n) wanted e, refl)
    by_test false e rest =
        rest
        (λ t is.
        let other : t ≢ n = λ q. eqb-false (serial n) wanted e (ap serial (sym q) ∙ is) in
        let past : t < suc n = within t is in
        omega (arith, other, past))

pub place_of_is : (serial : ℕ → ℕ) (mark : ℕ → Mark) (slots wanted : ℕ) → ((t : ℕ) → 0 < serial t → t < slots) → IsPlaceOf serial mark wanted (place_of serial mark slots wanted)
place_of_is serial mark slots zero within = λ t is. refl
place_of_is serial mark slots (suc n) within = place_below_is serial mark (suc n) slots (omega arith) (λ t is. within t (omega (arith, is)))

pub one_place : (serial : ℕ → ℕ) (mark : ℕ → Mark) (wanted : ℕ) (p q : Place) → AreApart serial → IsPlaceOf serial mark wanted p → IsPlaceOf serial mark wanted q → p ≡ q
one_place serial mark wanted Empty Empty apart a b = refl
one_place serial mark wanted Empty (At t n) apart a b = let none : wanted ≡ 0 = a t b.1 in absurd (omega (arith, none, b.0))
one_place serial mark wanted (At s m) Empty apart a b = let none : wanted ≡ 0 = b s a.1 in absurd (omega (arith, none, a.0))
one_place serial mark wanted (At s m) (At t n) apart a b =
    let slot : s ≡ t = apart s t (a.1 ∙ sym b.1) (omega (arith, a.0, a.1)) in
    ap₂ At slot (sym a.2 ∙ ap mark slot ∙ b.2)

places_len : (serial : ℕ → ℕ) (mark : ℕ → Mark) (slots n : ℕ) → length (places_of serial mark slots n) ≡ n
places_len serial mark slots zero = refl
places_len serial mark slots (suc n) = length-append (places_of serial mark slots n) (place_of serial mark slots n ∷ []) ∙ ap (λ k. k + 1) (places_len serial mark slots n) ∙ add-one n

places_get : (serial : ℕ → ℕ) (mark : ℕ → Mark) (slots n wanted : ℕ) → wanted < n → get_or (places_of serial mark slots n) wanted Empty ≡ place_of serial mark slots wanted
places_get serial mark slots zero wanted less = absurd (omega (arith, less))
places_get serial mark slots (suc n) wanted less =
    elim (cases_eq wanted n) [
      | inl e ↦ get_or_push (places_of serial mark slots n) (place_of serial mark slots n) Empty wanted (places_len serial mark slots n ∙ sym e) ∙ ap (place_of serial mark slots) (sym e)
      | inr differs ↦
          get_or_append_left (places_of serial mark slots n) (place_of serial mark slots n ∷ []) Empty wanted (omega (arith, places_len serial mark slots n, less, differs))
          ∙ places_get serial mark slots n wanted (omega (arith, less, differs))
    ]

pub places_kept : (serial : ℕ → ℕ) (mark : ℕ → Mark) (slots made : ℕ) → ((t : ℕ) → 0 < serial t → t < slots) → ArePlaces serial mark made (places_of serial mark slots made)
places_kept serial mark slots made within = record {
  len = places_len serial mark slots made;
  each = λ wanted less. subst (IsPlaceOf serial mark wanted) (sym (places_get serial mark slots made wanted less)) (place_of_is serial mark slots wanted within);
}

pub places_are : (serial : ℕ → ℕ) (mark : ℕ → Mark) (slots made : ℕ) (items : List Place) → AreApart serial → ((t : ℕ) → 0 < serial t → t < slots) → ArePlaces serial mark made items → places_of serial mark slots made ≡ items
places_are serial mark slots made items apart within are =
    ext_get_or Empty (places_of serial mark slots made) items (places_len serial mark slots made ∙ sym are.len)
    (λ wanted less.
    let below : wanted < made = omega (arith, less, places_len serial mark slots made) in
    places_get serial mark slots made wanted below ∙ one_place serial mark wanted (place_of serial mark slots wanted) (get_or items wanted Empty) apart (place_of_is serial mark slots wanted within) (are.each wanted below))

-- what changes elsewhere leaves a place
place_moves : (serial other : ℕ → ℕ) (mark mark' : ℕ → Mark) (wanted : ℕ) (p : Place) → ((t : ℕ) → serial t ≡ wanted → 0 < wanted → (other t ≡ wanted) × (mark' t ≡ mark t)) → ((t : ℕ) → other t ≡ wanted → 0 < wanted → serial t ≡ wanted) →
    IsPlaceOf serial mark wanted p → IsPlaceOf other mark' wanted p
place_moves serial other mark mark' wanted Empty stay back is = λ t e.
    elim (cases_eq wanted 0) [
      | inl none ↦ none
      | inr some ↦ is t (back t e (omega (arith, some)))
    ]
place_moves serial other mark mark' wanted (At slot m) stay back is = let now = stay slot is.1 is.0 in (is.0, now.0, now.1 ∙ is.2)

-- the object in the slot has another mark
pub places_marked : (serial other : ℕ → ℕ) (mark mark' : ℕ → Mark) (made : ℕ) (items : List Place) (wanted slot : ℕ) (was m : Mark) → ArePlaces serial mark made items → get_or items wanted Empty ≡ At slot was → ((t : ℕ) → other t ≡ serial t) →
    mark' slot ≡ m → ((t : ℕ) → t ≢ slot → mark' t ≡ mark t) → ArePlaces other mark' made (set items wanted (At slot m))
places_marked serial other mark mark' made items wanted slot was m are here same now marks = record {
  len = length-set items wanted (At slot m) ∙ are.len;
  each = λ k less.
      elim (cases_eq k wanted) [
        | inl e ↦
            subst (IsPlaceOf other mark' k) (sym (ap (λ n. get_or (set items wanted (At slot m)) n Empty) e ∙ get_or-set_same items wanted (At slot m) Empty inside))
            (omega (arith, e, there.0), same slot ∙ there.1 ∙ sym e, now)
        | inr differs ↦
            subst (IsPlaceOf other mark' k) (sym (get_or-set_other items wanted k (At slot m) Empty differs))
            (place_moves serial other mark mark' k (get_or items k Empty)
            (λ t is some. (same t ∙ is, marks t (λ q. differs (sym is ∙ ap serial q ∙ there.1)))) (λ t is some. sym (same t) ∙ is) (are.each k less))
      ];
}
  where
    inside : wanted < length items
    inside = At_inside items wanted slot was here

    there : IsPlaceOf serial mark wanted (At slot was)
    there = subst (IsPlaceOf serial mark wanted) here (are.each wanted (omega (arith, inside, are.len)))

-- the object of the serial, if there was one, is gone
pub places_removed : (serial other : ℕ → ℕ) (mark mark' : ℕ → Mark) (made : ℕ) (items : List Place) (wanted : ℕ) → ArePlaces serial mark made items → wanted < made → ((t : ℕ) → serial t ≡ wanted → other t ≡ 0) →
    ((t : ℕ) → serial t ≢ wanted → (other t ≡ serial t) × (mark' t ≡ mark t)) → ArePlaces other mark' made (set items wanted Empty)
places_removed serial other mark mark' made items wanted are given gone same = record {
  len = length-set items wanted Empty ∙ are.len;
  each = λ k less.
      elim (cases_eq k wanted) [
        | inl e ↦
            subst (IsPlaceOf other mark' k) (sym (ap (λ n. get_or (set items wanted Empty) n Empty) e ∙ get_or-set_same items wanted Empty Empty (omega (arith, given, are.len))))
            (λ t is.
            elim (cases_eq (serial t) wanted) [
              | inl q ↦ sym is ∙ gone t q
              | inr differs ↦ absurd (differs (sym (same t differs).0 ∙ is ∙ e))
            ])
        | inr apart ↦
            subst (IsPlaceOf other mark' k) (sym (get_or-set_other items wanted k Empty Empty apart))
            (place_moves serial other mark mark' k (get_or items k Empty)
            (λ t is some. let now = same t (λ q. apart (sym is ∙ q)) in (now.0 ∙ is, now.1))
            (λ t is some.
            elim (cases_eq (serial t) wanted) [
              | inl q ↦ let none : other t ≡ 0 = gone t q in absurd (omega (arith, none, is, some))
              | inr differs ↦ sym (same t differs).0 ∙ is
            ])
            (are.each k less))
      ];
}

-- one object more
pub places_added : (serial other : ℕ → ℕ) (mark mark' : ℕ → Mark) (made : ℕ) (items : List Place) (slot : ℕ) → ArePlaces serial mark made items → 0 < made → serial slot ≡ 0 → other slot ≡ made → mark' slot ≡ White →
    ((t : ℕ) → serial t < made) → ((t : ℕ) → t ≢ slot → (other t ≡ serial t) × (mark' t ≡ mark t)) → ArePlaces other mark' (made + 1) (items ++ At slot White ∷ [])
places_added serial other mark mark' made items slot are begun free there white below same = record {
  len = length-append items (At slot White ∷ []) ∙ ap (λ k. k + 1) are.len;
  each = λ k less.
      elim (cases_eq k made) [
        | inl e ↦
            subst (IsPlaceOf other mark' k) (sym (get_or_push items (At slot White) Empty k (are.len ∙ sym e)))
            (omega (arith, e, begun), there ∙ sym e, white)
        | inr apart ↦
            subst (IsPlaceOf other mark' k) (sym (get_or_append_left items (At slot White ∷ []) Empty k (omega (arith, are.len, less, apart))))
            (place_moves serial other mark mark' k (get_or items k Empty)
            (λ t is some.
            let now = same t (λ q. let none : serial t ≡ 0 = ap serial q ∙ free in omega (arith, none, is, some)) in
            (now.0 ∙ is, now.1))
            (λ t is some. sym (same t (λ q. apart (sym is ∙ ap other q ∙ there))).0 ∙ is)
            (are.each k (omega (arith, less, apart))))
      ];
}

-- no object has a mark
pub places_whitened : (serial other : ℕ → ℕ) (mark mark' : ℕ → Mark) (made : ℕ) (items : List Place) → ArePlaces serial mark made items → ((t : ℕ) → other t ≡ serial t) → ((t : ℕ) → mark' t ≡ White) → ArePlaces other mark' made (map white_place items)
places_whitened serial other mark mark' made items are same white = record {
  len = length-map items white_place ∙ are.len;
  each = λ k less. subst (IsPlaceOf other mark' k) (sym (get_or-map white_place items k Empty)) (by_place k (get_or items k Empty) (are.each k less));
}
  where
    by_place : (k : ℕ) (p : Place) → IsPlaceOf serial mark k p → IsPlaceOf other mark' k (white_place p)
    by_place k Empty is = λ t e. is t (sym (same t) ∙ e)
    by_place k (At slot m) is = (is.0, same slot ∙ is.1, white slot)

-- a slot that no place names has no object
pub vacant : (serial : ℕ → ℕ) (mark : ℕ → Mark) (made : ℕ) (items : List Place) (slot : ℕ) → AreApart serial → ArePlaces serial mark made items → ((t : ℕ) → serial t < made) → ((i : ℕ) (m : Mark) → get_or items i Empty ≢ At slot m) → serial slot ≡ 0
vacant serial mark made items slot apart are below free =
    elim (cases_eq (serial slot) 0) [
      | inl none ↦ none
      | inr some ↦
          absurd (free (serial slot) (mark slot)
          (one_place serial mark (serial slot) (get_or items (serial slot) Empty) (At slot (mark slot)) apart (are.each (serial slot) (below slot)) (omega (arith, some), refl, refl)))
    ]

-- a slot is the place of one serial
pub places_apart : (serial : ℕ → ℕ) (mark : ℕ → Mark) (made : ℕ) (items : List Place) (i j slot : ℕ) (a b : Mark) → ArePlaces serial mark made items → get_or items i Empty ≡ At slot a → get_or items j Empty ≡ At slot b → i ≡ j
places_apart serial mark made items i j slot a b are here there =
    let one = subst (IsPlaceOf serial mark i) here (are.each i (omega (arith, At_inside items i slot a here, are.len))) in
    let other = subst (IsPlaceOf serial mark j) there (are.each j (omega (arith, At_inside items j slot b there, are.len))) in
    sym one.1 ∙ other.1
