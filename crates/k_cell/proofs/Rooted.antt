-- Roots that are noted, and made gray later.
use Rattle.std.proofs.Common.{◌≡◌, ◌⊎◌, ◌↔◌, ◌&&◌, ◌<◌, ℕ, zero, suc, true, false, refl, sym, ap, subst, ◌∙◌, inl, inr, List, [], ◌∷◌, ◌++◌, length, slice_get, Option, Some, None, is_some}
use Rattle.std.proofs.lemmas.Bool.{and_from, and_parts, false≢true, or_cases, or_left, or_right}
use Rattle.std.proofs.lemmas.Option.{slice_get_within}
use Rattle.k_mark.specs.k_types.declared.names.Name.{Name}
use Rattle.k_mark.specs.k_types.Names.{name_among, name_eq}
use Rattle.k_mark.proofs.Lists.{some_one}
use Rattle.k_agree.proofs.NameTests.{name_eq-same, name_eq-true}
use Rattle.k_mark.specs.k_space.declared.bound.Bound.{Bound}
use Rattle.k_mark.specs.k_space.Bounds.{is_covered}
use Rattle.k_mark.specs.k_space.Segments.{Row, unmarked_row}
use Rattle.k_mark.specs.k_space.Areas.{AreaValue, HasDistinct, black_at, fields_at, gray_at, grayed, row_of_name, unmarked}
use Rattle.k_mark.specs.Kept.{IsBeginning, IsExitFrom, IsKept, IsReachedFrom, old_at}
use Rattle.k_mark.specs.Marking.{IsExit, IsReachedIn, lives_at, refers_at, some_lead_to}
use Rattle.k_mark.specs.Reached.{IsReached}
use Rattle.k_mark.proofs.Found.{same_distinct, unmarked_numbers}
use Rattle.k_mark.proofs.Looked.{black_same, gray_one, row_unmarked}
use Rattle.k_cell.specs.Looks.{row_fields, row_type}
use Rattle.k_cell.specs.Rooted.{AreGrayBut, grayed_all}
use Rattle.k_cell.proofs.Carried.{any_name, foreign_alike, marks_kept, old_lives, unmarked_fields}
use Rattle.k_cell.proofs.Keeps.{kept_from, reached_same}
use Rattle.k_cell.proofs.Marks.{grayed_same}

pub alike_distinct : (a b : AreaValue) → unmarked b ≡ unmarked a → HasDistinct a.segments → HasDistinct b.segments
alike_distinct a b same = same_distinct a.segments b.segments (unmarked_numbers b a same)

pub distinct_grayed : (a : AreaValue) (n : Name) → HasDistinct a.segments → HasDistinct (grayed a n).segments
distinct_grayed a n = alike_distinct a (grayed a n) (grayed_same a n)

-- the roots change marks alone
pub all_same : (a : AreaValue) (ns : List Name) → unmarked (grayed_all a ns) ≡ unmarked a
all_same a [] = refl
all_same a (n ∷ ns) = all_same (grayed a n) ns ∙ grayed_same a n

pub left_distinct : (a : AreaValue) (ns : List Name) → HasDistinct (grayed_all a ns).segments → HasDistinct a.segments
left_distinct a ns = alike_distinct (grayed_all a ns) a (sym (all_same a ns))

-- what is known of the area as it is seen, before its roots are gray
pub distinct_inside : (a seen : AreaValue) (ns : List Name) → grayed_all a ns ≡ seen → HasDistinct seen.segments → HasDistinct a.segments
distinct_inside a seen ns is distinct = left_distinct a ns (subst (λ (x : AreaValue). HasDistinct x.segments) (sym is) distinct)

pub grayed_push : (a : AreaValue) (ns : List Name) (n : Name) → grayed_all a (ns ++ n ∷ []) ≡ grayed (grayed_all a ns) n
grayed_push a [] n = refl
grayed_push a (m ∷ ns) n = grayed_push (grayed a m) ns n

-- the rows are those that are seen, but for their marks
plain_same : (a seen : AreaValue) (ns : List Name) (n : Name) → grayed_all a ns ≡ seen → unmarked_row (row_of_name a.segments n) ≡ unmarked_row (row_of_name seen.segments n)
plain_same a seen ns n is =
    sym (row_unmarked a n)
    ∙ ap (λ (x : AreaValue). row_of_name x.segments n) (sym (all_same a ns) ∙ ap unmarked is)
    ∙ row_unmarked seen n

pub lives_same : (a seen : AreaValue) (ns : List Name) (n : Name) → grayed_all a ns ≡ seen → is_some (row_of_name a.segments n) ≡ is_some (row_of_name seen.segments n)
lives_same a seen ns n is = sym (plain (row_of_name a.segments n)) ∙ ap (λ (o : Option Row). is_some o) (plain_same a seen ns n is) ∙ plain (row_of_name seen.segments n)
  where
    plain : (o : Option Row) → is_some (unmarked_row o) ≡ is_some o
    plain None = refl
    plain (Some row) = refl

pub fields_same : (a seen : AreaValue) (ns : List Name) (n : Name) → grayed_all a ns ≡ seen → row_fields (row_of_name a.segments n) ≡ row_fields (row_of_name seen.segments n)
fields_same a seen ns n is = sym (plain (row_of_name a.segments n)) ∙ ap row_fields (plain_same a seen ns n is) ∙ plain (row_of_name seen.segments n)
  where
    plain : (o : Option Row) → row_fields (unmarked_row o) ≡ row_fields o
    plain None = refl
    plain (Some row) = refl

pub type_same : (a seen : AreaValue) (ns : List Name) (n : Name) → grayed_all a ns ≡ seen → row_type (row_of_name a.segments n) ≡ row_type (row_of_name seen.segments n)
type_same a seen ns n is = sym (plain (row_of_name a.segments n)) ∙ ap row_type (plain_same a seen ns n is) ∙ plain (row_of_name seen.segments n)
  where
    plain : (o : Option Row) → row_type (unmarked_row o) ≡ row_type o
    plain None = refl
    plain (Some row) = refl

-- areas that differ in marks alone
pub lives_alike : (a b : AreaValue) (n : Name) → unmarked b ≡ unmarked a → is_some (row_of_name b.segments n) ≡ is_some (row_of_name a.segments n)
lives_alike a b n same = sym (plain (row_of_name b.segments n)) ∙ ap (λ (o : Option Row). is_some o) (sym (row_unmarked b n) ∙ ap (λ (x : AreaValue). row_of_name x.segments n) same ∙ row_unmarked a n) ∙ plain (row_of_name a.segments n)
  where
    plain : (o : Option Row) → is_some (unmarked_row o) ≡ is_some o
    plain None = refl
    plain (Some row) = refl

pub fields_alike : (a b : AreaValue) (n : Name) → unmarked b ≡ unmarked a → fields_at b n ≡ fields_at a n
fields_alike a b n same = sym (unmarked_fields b n) ∙ ap (λ (x : AreaValue). fields_at x n) same ∙ unmarked_fields a n

pub refers_alike : (a b : AreaValue) (n m : Name) → unmarked b ≡ unmarked a → refers_at b n m ≡ refers_at a n m
refers_alike a b n m same = ap (λ o. some_lead_to o m) (fields_alike a b n same)

-- the colors of roots
pub black_all : (a : AreaValue) (ns : List Name) (n : Name) → black_at (grayed_all a ns) n ≡ black_at a n
black_all a [] n = refl
black_all a (m ∷ ns) n = black_all (grayed a m) ns n ∙ black_same a m n

gray_more : (a : AreaValue) (m n : Name) → black_at a m ≡ false → gray_at a n ≡ true → gray_at (grayed a m) n ≡ true
gray_more a m n clean e = gray_one a m n clean ∙ or_left (gray_at a n) (name_eq m n && is_some (row_of_name a.segments m)) e

gray_here : (a : AreaValue) (m n : Name) → black_at a m ≡ false → name_eq m n ≡ true → is_some (row_of_name a.segments m) ≡ true → gray_at (grayed a m) n ≡ true
gray_here a m n clean e live =
    gray_one a m n clean
    ∙ or_right (gray_at a n) (name_eq m n && is_some (row_of_name a.segments m)) (and_from (name_eq m n) (is_some (row_of_name a.segments m)) e live)

gray_parts : (a : AreaValue) (m n : Name) → black_at a m ≡ false → gray_at (grayed a m) n ≡ true → (gray_at a n ≡ true) ⊎ ((name_eq m n ≡ true) × (is_some (row_of_name a.segments m) ≡ true))
gray_parts a m n clean e =
    elim (or_cases (gray_at a n) (name_eq m n && is_some (row_of_name a.segments m)) (sym (gray_one a m n clean) ∙ e)) [
      | inl was ↦ inl was
      | inr both ↦ inr (and_parts (name_eq m n) (is_some (row_of_name a.segments m)) both)
    ]

gray_still : (a : AreaValue) (ns : List Name) (n : Name) → ((k : Name) → black_at a k ≡ false) → gray_at a n ≡ true → gray_at (grayed_all a ns) n ≡ true
gray_still a [] n clean e = e
gray_still a (m ∷ ns) n clean e = gray_still (grayed a m) ns n (λ k. black_same a m k ∙ clean k) (gray_more a m n (clean m) e)

noted_gray : (a : AreaValue) (ns : List Name) (n : Name) → ((k : Name) → black_at a k ≡ false) → name_among n ns ≡ true → is_some (row_of_name a.segments n) ≡ true → gray_at (grayed_all a ns) n ≡ true
noted_gray a [] n clean e live = absurd (false≢true e)
noted_gray a (m ∷ ns) n clean e live =
    elim (or_cases (name_eq m n) (name_among n ns) e) [
      | inl here ↦
          gray_still (grayed a m) ns n (λ k. black_same a m k ∙ clean k)
          (gray_here a m n (clean m) here (subst (λ (k : Name). is_some (row_of_name a.segments k) ≡ true) (sym (name_eq-true m n here)) live))
      | inr later ↦ noted_gray (grayed a m) ns n (λ k. black_same a m k ∙ clean k) later (lives_alike a (grayed a m) n (grayed_same a m) ∙ live)
    ]

gray_from : (a : AreaValue) (ns : List Name) (n : Name) → ((k : Name) → black_at a k ≡ false) → gray_at (grayed_all a ns) n ≡ true → (gray_at a n ≡ true) ⊎ (name_among n ns ≡ true)
gray_from a [] n clean e = inl e
gray_from a (m ∷ ns) n clean e =
    elim (gray_from (grayed a m) ns n (λ k. black_same a m k ∙ clean k) e) [
      | inl g ↦
          elim (gray_parts a m n (clean m) g) [
            | inl was ↦ inl was
            | inr here ↦ inr (or_left (name_eq m n) (name_among n ns) here.0)
          ]
      | inr later ↦ inr (or_right (name_eq m n) (name_among n ns) later)
    ]

-- where only noted objects are gray
pub gray_noted : (a : AreaValue) (ns : List Name) (n : Name) → ((k : Name) → black_at a k ≡ false) → ((k : Name) → gray_at a k ≡ false) → gray_at (grayed_all a ns) n ≡ true → name_among n ns ≡ true
gray_noted a ns n clean none e =
    elim (gray_from a ns n clean e) [
      | inl g ↦ absurd (false≢true (sym (none n) ∙ g))
      | inr among ↦ among
    ]

-- one more of the noted
module _ (a now : AreaValue) (ns roots : List Name) (below : Bound) (x : Name) (clean : (k : Name) → black_at a k ≡ false) (was : AreGrayBut a ns roots below now) where
  clean_x : black_at (grayed_all a ns) x ≡ false
  clean_x = black_all a ns x ∙ clean x

  pushed : (n : Name) → gray_at (grayed_all a (ns ++ x ∷ [])) n ≡ gray_at (grayed (grayed_all a ns) x) n
  pushed n = ap (λ (y : AreaValue). gray_at y n) (grayed_push a ns x)

  lives_both : is_some (row_of_name (grayed_all a ns).segments x) ≡ is_some (row_of_name now.segments x)
  lives_both = lives_alike a (grayed_all a ns) x (all_same a ns) ∙ sym (lives_alike a now x was.same)

  pub one_grayed : AreGrayBut a (ns ++ x ∷ []) roots below (grayed now x)
  one_grayed = record {
    same = grayed_same now x ∙ was.same;
    black = λ n. black_same now x n ∙ was.black n;
    gray = λ n e.
        pushed n
        ∙ elim (gray_parts now x n (was.black x) e) [
          | inl h ↦ gray_more (grayed_all a ns) x n clean_x (was.gray n h)
          | inr h ↦ gray_here (grayed_all a ns) x n clean_x h.0 (lives_both ∙ h.1)
        ];
    rest = λ n e.
        elim (gray_parts (grayed_all a ns) x n clean_x (sym (pushed n) ∙ e)) [
          | inl h ↦
              elim (was.rest n h) [
                | inl g ↦ inl (gray_more now x n (was.black x) g)
                | inr k ↦ inr k
              ]
          | inr h ↦ inl (gray_here now x n (was.black x) h.0 (sym lives_both ∙ h.1))
        ];
  }

  pub one_known : name_among x roots ≡ true → is_covered below x ≡ true → AreGrayBut a (ns ++ x ∷ []) roots below now
  one_known among low = record {
    same = was.same;
    black = was.black;
    gray = λ n e. pushed n ∙ gray_more (grayed_all a ns) x n clean_x (was.gray n e);
    rest = λ n e.
        elim (gray_parts (grayed_all a ns) x n clean_x (sym (pushed n) ∙ e)) [
          | inl h ↦ was.rest n h
          | inr h ↦ inr (subst (λ (k : Name). (name_among k roots ≡ true) × (is_covered below k ≡ true)) (name_eq-true x n h.0) (among, low))
        ];
  }

-- an element of a list is among its elements
pub among_at : (n : Name) (xs : List Name) (k : ℕ) → slice_get xs k ≡ Some n → name_among n xs ≡ true
among_at n [] zero e = absurd (cc)
among_at n [] (suc k) e = absurd (cc)
among_at n (x ∷ xs) zero e = or_left (name_eq x n) (name_among n xs) (name_eq-same x n (some_one e))
among_at n (x ∷ xs) (suc k) e = or_right (name_eq x n) (name_among n xs) (among_at n xs k e)

pub all_noted : (noted roots : List Name) → ((k : ℕ) (r : Name) → k < length roots → slice_get roots k ≡ Some r → name_among r noted ≡ true) → (n : Name) → name_among n roots ≡ true → name_among n noted ≡ true
all_noted noted roots each n among = let at = any_name n roots among in each at.0 n (slice_get_within roots at.0 n at.1) at.1

-- what marking begins with, where the roots of the last collection are all noted
pub known_beginning : (a now : AreaValue) (noted roots : List Name) (below : Bound) → ((k : Name) → black_at a k ≡ false) → AreGrayBut a noted roots below now →
    ((n : Name) → name_among n roots ≡ true → name_among n noted ≡ true) → IsKept (old_at a below) (refers_at a) (λ n. name_among n roots) below → IsBeginning now below (gray_at (grayed_all a noted))
known_beginning a now noted roots below clean but all kept = record {
  gray = but.gray;
  known = λ n s live.
      elim (but.rest n s) [
        | inl g ↦ inl g
        | inr h ↦ inr (and_from (lives_at now n) (is_covered below n) live h.1)
      ];
  kept =
      marks_kept a now (gray_at (grayed_all a noted)) below but.same
      (kept_from (old_at a below) (refers_at a) (λ n. name_among n roots) (gray_at (grayed_all a noted)) below (λ n r o. noted_gray a noted n clean (all n r) (old_lives a below n o)) kept);
}

pub gray_beginning : (now seen : AreaValue) (below : Bound) → now ≡ seen → IsKept (old_at now below) (refers_at now) (gray_at now) below → IsBeginning now below (gray_at seen)
gray_beginning now seen below is kept = subst (λ (x : AreaValue). IsBeginning now below (gray_at x)) is (record { gray = λ n e. e; known = λ n s live. inl s; kept = kept })

-- the same is reached
module _ (now seen other : AreaValue) (same : unmarked now ≡ unmarked seen) (is : other ≡ seen) where
  to_seen : (n : Name) → IsReachedFrom now (gray_at other) n → IsReachedIn seen n
  to_seen n r =
      subst (λ (x : AreaValue). IsReached (lives_at seen) (refers_at seen) (gray_at x) n) is
      (reached_same (lives_at now) (lives_at seen) (refers_at now) (refers_at seen) (gray_at other) (λ k. ap is_some (sym (fields_alike seen now k same))) (λ k m e. sym (refers_alike seen now k m same)) n r)

  from_seen : (n : Name) → IsReachedIn seen n → IsReachedFrom now (gray_at other) n
  from_seen n r =
      subst (λ (x : AreaValue). IsReached (lives_at now) (refers_at now) (gray_at x) n) (sym is)
      (reached_same (lives_at seen) (lives_at now) (refers_at seen) (refers_at now) (gray_at seen) (λ k. ap is_some (fields_alike seen now k same)) (λ k m e. refers_alike seen now k m same) n r)

  pub reached_seen : (n : Name) → IsReachedFrom now (gray_at other) n ↔ IsReachedIn seen n
  reached_seen n = (to_seen n, from_seen n)

  pub exits_seen : (t : Name) → IsExitFrom now (gray_at other) t ↔ IsExit seen t
  exits_seen t = (
    λ e. record { from = e.from; reached = to_seen e.from e.reached; refers = sym (refers_alike seen now e.from t same) ∙ e.refers; foreign = sym (foreign_alike seen now t same) ∙ e.foreign },
    λ e. record { from = e.from; reached = from_seen e.from e.reached; refers = refers_alike seen now e.from t same ∙ e.refers; foreign = foreign_alike seen now t same ∙ e.foreign },
  )
