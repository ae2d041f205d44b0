-- The list of gray places.
use Rattle.std.proofs.Common.{◌≡◌, ◌≢◌, ℕ, zero, suc, ◌+◌, ◌<◌, ◌≤◌, Bool, true, false, cond, refl, sym, ap, subst, ◌∙◌, List, [], ◌∷◌, length, get_or, set, count_by, ◌++◌, arith}
use Rattle.std.proofs.lemmas.List.{get_or-set_same, get_or-set_other, get_or_append_left}
use Rattle.std.proofs.lemmas.List.Sums.{sum_by-set, sum_by-cons, sum_by-append}
use Rattle.k_space.specs.declared.marks.Place.{Place}
use Rattle.k_space.specs.declared.marks.Place.TheVariants.{Empty, At}
use Rattle.k_space.specs.declared.marks.Mark.{Mark}
use Rattle.k_space.specs.declared.marks.Mark.TheVariants.{Gray}
use Rattle.k_space.specs.Places.{IsGrayList, is_gray_place}

pub At_inside : (places : List Place) (i slot : ℕ) (mark : Mark) → get_or places i Empty ≡ At slot mark → i < length places
At_inside [] i slot mark e = absurd (cc)
At_inside (x ∷ xs) zero slot mark e = omega arith
At_inside (x ∷ xs) (suc i) slot mark e = omega (arith, At_inside xs i slot mark e)

-- the first place is empty, so an object lies past it
pub past_first : (places : List Place) (i slot : ℕ) (mark : Mark) → get_or places 0 Empty ≡ Empty → get_or places i Empty ≡ At slot mark → 0 < i
past_first places zero slot mark first here = let both : At slot mark ≡ Empty = sym here ∙ first in absurd (cc)
past_first places (suc i) slot mark first here = omega arith

pub above_zero : (n : ℕ) → (n ≡ 0 → ⊥) → 0 < n
above_zero zero h = absurd (h refl)
above_zero (suc n) h = omega arith

-- what follows a place is one thing
pub same_next : (places : List Place) (i s t m n : ℕ) → get_or places i Empty ≡ At s (Gray m) → get_or places i Empty ≡ At t (Gray n) → m ≡ n
same_next places i s t m n p q = cc

-- two lists from one head are as long
pub one_length : (places : List Place) (n m head : ℕ) → IsGrayList places n head → IsGrayList places m head → n ≡ m
one_length places zero zero head p q = refl
one_length places zero (suc m) head p (some, t, next, here, rest) = absurd (omega (arith, p, some))
one_length places (suc n) zero head (some, s, next, here, rest) q = absurd (omega (arith, q, some))
one_length places (suc n) (suc m) head (some, s, next, here, rest) (some', t, next', here', rest') =
    let nexts : next' ≡ next = same_next places head t s next' next here' here in
    let rest'' : IsGrayList places m next = subst (λ (h : ℕ). IsGrayList places m h) nexts rest' in
    ap suc (one_length places n m next rest rest'')

-- a write at a place that begins a longer list leaves a list
pub list_kept : (places : List Place) (n head i : ℕ) (x : Place) → ((m : ℕ) → m ≤ n → IsGrayList places m i → ⊥) → IsGrayList places n head → IsGrayList (set places i x) n head
list_kept places zero head i x apart p = p
list_kept places (suc n) head i x apart (some, s, next, here, rest) =
    let other : head ≢ i = λ e. apart (suc n) (omega arith) (subst (λ (h : ℕ). IsGrayList places (suc n) h) e (some, s, next, here, rest)) in
    (some, s, next, get_or-set_other places i head x Empty other ∙ here, list_kept places n next i x (λ m within. apart m (omega (arith, within))) rest)

abbrev pub bit : Bool → ℕ
bit b = cond b 1 0

pub count-set : (places : List Place) (i : ℕ) (x : Place) → i < length places → count_by is_gray_place (set places i x) + bit (is_gray_place (get_or places i Empty)) ≡ count_by is_gray_place places + bit (is_gray_place x)
count-set places i x within = sum_by-set (λ p. bit (is_gray_place p)) places i x Empty within

-- the first of the list leaves it
pub first_left : (places : List Place) (n i slot next : ℕ) (x : Place) → n ≡ count_by is_gray_place places → get_or places i Empty ≡ At slot (Gray next) → 0 < i → IsGrayList places n i → is_gray_place x ≡ false →
    IsGrayList (set places i x) (count_by is_gray_place (set places i x)) next
first_left places zero i slot next x counted here some p plain = absurd (omega (arith, some, p))
first_left places (suc n) i slot next x counted here some (some', s, next', here', rest) plain =
    let nexts : next' ≡ next = same_next places i s slot next' next here' here in
    let from : IsGrayList places n next = subst (λ (h : ℕ). IsGrayList places n h) nexts rest in
    let apart : (m : ℕ) → m ≤ n → IsGrayList places m i → ⊥ = λ m within q. lengths m within (one_length places (suc n) m i (some, slot, next, here, from) q) in
    let on : bit (is_gray_place (get_or places i Empty)) ≡ 1 = ap (λ p. bit (is_gray_place p)) here in
    let off : bit (is_gray_place x) ≡ 0 = ap bit plain in
    let fewer : n ≡ count_by is_gray_place (set places i x) = omega (arith, count-set places i x (At_inside places i slot (Gray next) here), on, off, counted) in
    subst (λ (k : ℕ). IsGrayList (set places i x) k next) fewer (list_kept places n next i x apart from)
  where
    lengths : (m : ℕ) → m ≤ n → suc n ≡ m → ⊥
    lengths m within e = omega arith

-- no list, no gray place
pub none_gray : (places : List Place) → count_by is_gray_place places ≡ 0 → (j : ℕ) → is_gray_place (get_or places j Empty) ≡ false
none_gray [] e j = refl
none_gray (x ∷ xs) e zero = bit_none (is_gray_place x) (count_by is_gray_place xs) (sym (sum_by-cons (λ p. bit (is_gray_place p)) x xs) ∙ e)
  where
    bit_none : (b : Bool) (n : ℕ) → bit b + n ≡ 0 → b ≡ false
    bit_none true n e = absurd (omega arith)
    bit_none false n e = refl
none_gray (x ∷ xs) e (suc j) = none_gray xs (omega (arith, sum_by-cons (λ p. bit (is_gray_place p)) x xs, e)) j

pub no_head : (places : List Place) (n : ℕ) → IsGrayList places n 0 → n ≡ 0
no_head places zero p = refl
no_head places (suc n) (some, s, next, here, rest) = absurd (omega (arith, some))

-- a list has a first where it is not empty
pub head_gray : (places : List Place) (n i : ℕ) → 0 < i → IsGrayList places n i → (slot : ℕ) × (next : ℕ) × (get_or places i Empty ≡ At slot (Gray next))
head_gray places zero i some p = absurd (omega (arith, some, p))
head_gray places (suc n) i some (some', s, next, here, rest) = (s, next, here)

-- one more place at the end
pub list_pushed : (places : List Place) (n head : ℕ) (x : Place) → IsGrayList places n head → IsGrayList (places ++ x ∷ []) n head
list_pushed places zero head x p = p
list_pushed places (suc n) head x (some, s, next, here, rest) =
    (some, s, next, get_or_append_left places (x ∷ []) Empty head (At_inside places head s (Gray next) here) ∙ here, list_pushed places n next x rest)

pub count_pushed : (places : List Place) (x : Place) → is_gray_place x ≡ false → count_by is_gray_place (places ++ x ∷ []) ≡ count_by is_gray_place places
count_pushed places x plain =
    let off : bit (is_gray_place x) ≡ 0 = ap bit plain in
    omega (arith, sum_by-append (λ p. bit (is_gray_place p)) places (x ∷ []), sum_by-cons (λ p. bit (is_gray_place p)) x [], off)

-- a place that is not gray becomes the first of the list
first_joined : (places : List Place) (n i slot head : ℕ) → is_gray_place (get_or places i Empty) ≡ false → 0 < i → i < length places → IsGrayList places n head →
    IsGrayList (set places i (At slot (Gray head))) (suc n) i
first_joined places n i slot head plain some within p =
    (some, slot, head, get_or-set_same places i (At slot (Gray head)) Empty within, list_kept places n head i _ (λ m w q. not_first m q) p)
  where
    not_first : (m : ℕ) → IsGrayList places m i → ⊥
    not_first zero q = omega (arith, q, some)
    not_first (suc m) (some', s, next, here, rest) =
        let gray : is_gray_place (get_or places i Empty) ≡ true = ap is_gray_place here in
        cc

pub joined : (places : List Place) (i slot head : ℕ) → is_gray_place (get_or places i Empty) ≡ false → 0 < i → i < length places → IsGrayList places (count_by is_gray_place places) head →
    IsGrayList (set places i (At slot (Gray head))) (count_by is_gray_place (set places i (At slot (Gray head)))) i
joined places i slot head plain some within p =
    let off : bit (is_gray_place (get_or places i Empty)) ≡ 0 = ap bit plain in
    let more : suc (count_by is_gray_place places) ≡ count_by is_gray_place (set places i (At slot (Gray head))) = omega (arith, count-set places i (At slot (Gray head)) within, off) in
    subst (λ (k : ℕ). IsGrayList (set places i (At slot (Gray head))) k i) more (first_joined places (count_by is_gray_place places) i slot head plain some within p)
