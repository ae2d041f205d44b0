-- What is left of the objects from a segment on.
use Rattle.std.proofs.Common.{◌≡◌, ℕ, ◌+◌, ◌≤◌, ◌&&◌, not, nat_lt, cond, Bool, true, false, refl, ap, ap₂, sym, ◌∙◌, inl, inr, List, [], ◌∷◌, ◌++◌, filter, length, arith, ne_eqb, eq-eqb}
use Rattle.std.specs.List.{AllByRecursion, list_all}
use Rattle.std.proofs.lemmas.Bool.{cases_eq, cases_lt, lt-ltb}
use Rattle.std.proofs.lemmas.List.{length-append}
use Rattle.std.proofs.lemmas.List.Folds.{list_all-append}
use Rattle.k_types.specs.declared.names.Heap.{Heap}
use Rattle.k_types.specs.Names.{heap_eq}
use Rattle.k_types.specs.Sound.{IsOrdered}
use Rattle.k_types.specs.State.{Object}
use Rattle.k_types.specs.Trace.{Trace, segment_count}
use Rattle.k_types.proofs.Ordered.{ordered_tail}
use Rattle.k_state.specs.Machines.{IsDeclared}
use Rattle.k_state.specs.Segments.{AreIn, objects_in}
use Rattle.k_state.proofs.Borders.{none_before, not_less}
use Rattle.k_state.proofs.Split.{are_in}
use Rattle.k_audit.specs.Agreeing.{owners_agree}

-- the objects of that segment and of those after it
abbrev pub objects_from : List Object → ℕ → List Object
objects_from xs seg = filter (λ o. not (nat_lt o.name.seg.0 seg)) xs

pub from_first : (xs : List Object) → objects_from xs 0 ≡ xs
from_first [] = refl
from_first (x ∷ xs) =
    ap (λ b. cond (not b) (x ∷ objects_from xs 0) (objects_from xs 0)) (not_less x.name.seg.0 0 (omega arith)) ∙ ap (λ ys. x ∷ ys) (from_first xs)

pub from_last : (setup : Trace) (xs : List Object) (seg : ℕ) → segment_count setup ≤ seg → AllByRecursion (IsDeclared setup) xs → objects_from xs seg ≡ []
from_last setup [] seg past all = refl
from_last setup (x ∷ xs) seg past all =
    let low = (all.0).seg in
    ap (λ b. cond (not b) (x ∷ objects_from xs seg) (objects_from xs seg)) (lt-ltb x.name.seg.0 seg (omega (arith, low, past))) ∙ from_last setup xs seg past all.1

pub from_next : (xs : List Object) (k : ℕ) → IsOrdered xs → objects_from xs k ≡ objects_in xs k ++ objects_from xs (k + 1)
from_next [] k ordered = refl
from_next (x ∷ xs) k ordered =
    let s = x.name.seg.0 in
    let here = objects_from xs k in
    let own = objects_in xs k in
    let next = objects_from xs (k + 1) in
    let ih : here ≡ own ++ next = from_next xs k (ordered_tail x.name xs ordered) in
    elim (cases_lt s k) [
      | inl low ↦
          ap (λ b. cond (not b) (x ∷ here) here) (lt-ltb s k low)
          ∙ ih
          ∙ ap₂ (λ a b. cond a (x ∷ own) own ++ cond (not b) (x ∷ next) next) (sym (ne_eqb s k (λ e. omega (arith, e, low)))) (sym (lt-ltb s (k + 1) (omega (arith, low))))
      | inr high ↦ elim (cases_eq s k) [
        | inl same ↦
            ap (λ b. cond (not b) (x ∷ here) here) (not_less s k high)
            ∙ ap (λ ys. x ∷ ys) ih
            ∙ ap₂ (λ a b. cond a (x ∷ own) own ++ cond (not b) (x ∷ next) next) (sym (eq-eqb s k same)) (sym (lt-ltb s (k + 1) (omega (arith, same))))
        | inr apart ↦
            let none : own ≡ [] = none_before x.name xs k (omega (arith, high, apart)) ordered in
            ap (λ b. cond (not b) (x ∷ here) here) (not_less s k high)
            ∙ ap (λ ys. x ∷ ys) (ih ∙ ap (λ ys. ys ++ next) none)
            ∙ ap (λ ys. ys ++ (x ∷ next)) (sym none)
            ∙ ap₂ (λ a b. cond a (x ∷ own) own ++ cond (not b) (x ∷ next) next) (sym (ne_eqb s k apart)) (sym (not_less s (k + 1) (omega (arith, high, apart))))
      ]
    ]

-- a test of what is left
module _ (p : Object → Bool) (xs : List Object) where
  pub rest_first : list_all p xs ≡ list_all p (objects_from xs 0)
  rest_first = ap (list_all p) (sym (from_first xs))

  pub rest_next : (k : ℕ) → IsOrdered xs → list_all p (objects_from xs k) ≡ (list_all p (objects_in xs k) && list_all p (objects_from xs (k + 1)))
  rest_next k ordered = ap (list_all p) (from_next xs k ordered) ∙ list_all-append p (objects_in xs k) (objects_from xs (k + 1))

  pub rest_fails : (k : ℕ) (b : Bool) → IsOrdered xs → b ≡ list_all p (objects_in xs k) → b ≡ false → list_all p (objects_from xs k) ≡ false
  rest_fails k b ordered is fails = rest_next k ordered ∙ ap (λ c. c && list_all p (objects_from xs (k + 1))) (sym is ∙ fails)

  pub rest_passes : (k : ℕ) (b : Bool) → IsOrdered xs → b ≡ list_all p (objects_in xs k) → b ≡ true → list_all p (objects_from xs k) ≡ list_all p (objects_from xs (k + 1))
  rest_passes k b ordered is passes = rest_next k ordered ∙ ap (λ c. c && list_all p (objects_from xs (k + 1))) (sym is ∙ passes)

  pub rest_last : (setup : Trace) (k : ℕ) → segment_count setup ≤ k → AllByRecursion (IsDeclared setup) xs → list_all p (objects_from xs k) ≡ true
  rest_last setup k past all = ap (list_all p) (from_last setup xs k past all)

-- the claimed owners of a segment and of the rest
agree_parts : (own : ℕ → Heap) (hs gs : List Heap) (xs ys : List Object) → length hs ≡ length xs →
    owners_agree own (hs ++ gs) (xs ++ ys) ≡ (owners_agree own hs xs && owners_agree own gs ys)
agree_parts own [] gs [] ys same = refl
agree_parts own [] gs (x ∷ xs) ys same = absurd (omega (arith, same))
agree_parts own (h ∷ hs) gs [] ys same = absurd (omega (arith, same))
agree_parts own (h ∷ hs) gs (x ∷ xs) ys same =
    ap (λ b. heap_eq h (own x.name.seg.0) && b) (agree_parts own hs gs xs ys (omega (arith, same)))
    ∙ and_assoc (heap_eq h (own x.name.seg.0)) (owners_agree own hs xs) (owners_agree own gs ys)
  where
    and_assoc : (a b c : Bool) → (a && (b && c)) ≡ ((a && b) && c)
    and_assoc true b c = refl
    and_assoc false b c = refl

agree_in : (own : ℕ → Heap) (seg : ℕ) (hs : List Heap) (xs : List Object) → length hs ≡ length xs → AreIn seg xs →
    owners_agree own hs xs ≡ list_all (λ h. heap_eq h (own seg)) hs
agree_in own seg [] [] same all = refl
agree_in own seg [] (x ∷ xs) same all = absurd (omega (arith, same))
agree_in own seg (h ∷ hs) [] same all = absurd (omega (arith, same))
agree_in own seg (h ∷ hs) (x ∷ xs) same all =
    ap₂ (λ k b. heap_eq h (own k) && b) all.0 (agree_in own seg hs xs (omega (arith, same)) all.1)

module _ (own : ℕ → Heap) (hs gs rest : List Heap) (xs : List Object) (k : ℕ) (ordered : IsOrdered xs) (parts : rest ≡ hs ++ gs) (long : length hs ≡ length (objects_in xs k)) where
  pub agree_next : owners_agree own rest (objects_from xs k) ≡ (list_all (λ h. heap_eq h (own k)) hs && owners_agree own gs (objects_from xs (k + 1)))
  agree_next =
      ap₂ (owners_agree own) parts (from_next xs k ordered)
      ∙ agree_parts own hs gs (objects_in xs k) (objects_from xs (k + 1)) long
      ∙ ap (λ b. b && owners_agree own gs (objects_from xs (k + 1))) (agree_in own k hs (objects_in xs k) long (are_in xs k))

  pub rest_long : length rest ≡ length (objects_from xs k) → length gs ≡ length (objects_from xs (k + 1))
  rest_long same =
      let first = ap (λ (ys : List Heap). length ys) parts in
      let then = ap (λ (ys : List Object). length ys) (from_next xs k ordered) in
      let a = length-append hs gs in
      let b = length-append (objects_in xs k) (objects_from xs (k + 1)) in
      omega (arith, same, first, then, a, b, long)
