-- Objects in order, on both sides of a segment.
use Rattle.std.proofs.Common.{◌≡◌, ℕ, suc, ◌+◌, ◌<◌, ◌≤◌, ◌==◌, ◌&&◌, nat_lt, cond, refl, ap, ap₂, sym, ◌∙◌, inl, inr, List, [], ◌∷◌, ◌++◌, arith, eq-eqb, ne_eqb, true, false}
use Rattle.std.specs.List.{AllByRecursion}
use Rattle.std.proofs.lemmas.Bool.{and_parts, cases_eq, cases_lt, eqb-true, lt-ltb, ltb-true, or_cases}
use Rattle.std.proofs.lemmas.Bool.Decides.{nat_tests}
use Rattle.k_types.specs.declared.names.Name.{Name}
use Rattle.k_types.specs.Names.{name_lt}
use Rattle.k_types.specs.Sound.{IsOrdered, IsOrderedFrom}
use Rattle.k_types.specs.State.{Object}
use Rattle.k_types.specs.Trace.{Trace, segment_count}
use Rattle.k_laws.proofs.Ordered.{ordered_tail}
use Rattle.k_state.specs.Machines.{IsDeclared}
use Rattle.k_state.specs.Segments.{AreFrom, objects_below, objects_in}
use Rattle.k_state.proofs.Split.{nothing_from}

-- a name that comes later is of the same segment or of one after it
pub later_segment : (a b : Name) → name_lt a b ≡ true → a.seg.0 ≤ b.seg.0
later_segment a b lt =
    elim (or_cases (nat_lt a.seg.0 b.seg.0) ((a.seg.0 == b.seg.0) && nat_lt a.serial.0 b.serial.0) lt) [
      | inl low ↦ let less = ltb-true a.seg.0 b.seg.0 low in omega (arith, less)
      | inr same ↦ let is = eqb-true a.seg.0 b.seg.0 (and_parts (a.seg.0 == b.seg.0) (nat_lt a.serial.0 b.serial.0) same).0 in omega (arith, is)
    ]

from_ordered : (s : ℕ) (n : Name) (xs : List Object) → s ≤ n.seg.0 → IsOrderedFrom n xs → AreFrom s xs
from_ordered s n [] low t = tt
from_ordered s n (x ∷ xs) low t =
    let up = later_segment n x.name t.0 in
    let here : s ≤ x.name.seg.0 = omega (arith, up, low) in
    (here, from_ordered s x.name xs here t.1)

pub not_less : (a b : ℕ) → b ≤ a → nat_lt a b ≡ false
not_less a b high = grind (arith, nat_tests)

-- a number that is not the bound is below it where it is below the next one
pub less_next : (a b : ℕ) → (a ≡ b → ⊥) → nat_lt a b ≡ nat_lt a (b + 1)
less_next a b apart =
    elim (cases_lt a b) [
      | inl low ↦ lt-ltb a b low ∙ sym (lt-ltb a (b + 1) (omega (arith, low)))
      | inr high ↦ not_less a b high ∙ sym (not_less a (b + 1) (omega (arith, high, apart)))
    ]

-- what comes after a name has no objects of the segments before it
pub none_before : (n : Name) (xs : List Object) (k : ℕ) → k < n.seg.0 → IsOrderedFrom n xs → objects_in xs k ≡ []
none_before n xs k low ordered =
    nothing_from (λ (o : Object). o.name.seg.0 == k) (suc k) (λ o from. ne_eqb o.name.seg.0 k (λ e. omega (arith, e, from))) xs
    (from_ordered (suc k) n xs (omega (arith, low)) ordered)

-- the objects below a segment, one segment more
pub below_none : (xs : List Object) → objects_below xs 0 ≡ []
below_none [] = refl
below_none (x ∷ xs) =
    ap (λ b. cond b (x ∷ objects_below xs 0) (objects_below xs 0)) (not_less x.name.seg.0 0 (omega arith)) ∙ below_none xs

pub below_next : (xs : List Object) (k : ℕ) → IsOrdered xs → objects_below xs (k + 1) ≡ objects_below xs k ++ objects_in xs k
below_next [] k ordered = refl
below_next (x ∷ xs) k ordered =
    let s = x.name.seg.0 in
    let next = objects_below xs (k + 1) in
    let before = objects_below xs k in
    let own = objects_in xs k in
    let ih : next ≡ before ++ own = below_next xs k (ordered_tail x.name xs ordered) in
    elim (cases_lt s k) [
      | inl low ↦
          ap (λ b. cond b (x ∷ next) next) (lt-ltb s (k + 1) (omega (arith, low)))
          ∙ ap (λ ys. x ∷ ys) ih
          ∙ ap₂ (λ a b. cond a (x ∷ before) before ++ cond b (x ∷ own) own) (sym (lt-ltb s k low)) (sym (ne_eqb s k (λ e. omega (arith, e, low))))
      | inr high ↦ elim (cases_eq s k) [
        | inl same ↦
            let none : before ≡ []
            = nothing_from (λ (o : Object). nat_lt o.name.seg.0 k) k (λ o from. not_less o.name.seg.0 k from) xs (from_ordered k x.name xs high ordered) in
            ap (λ b. cond b (x ∷ next) next) (lt-ltb s (k + 1) (omega (arith, same)))
            ∙ ap (λ ys. x ∷ ys) (ih ∙ ap (λ ys. ys ++ own) none)
            ∙ ap (λ ys. ys ++ (x ∷ own)) (sym none)
            ∙ ap₂ (λ a b. cond a (x ∷ before) before ++ cond b (x ∷ own) own) (sym (not_less s k high)) (sym (eq-eqb s k same))
        | inr apart ↦
            ap (λ b. cond b (x ∷ next) next) (not_less s (k + 1) (omega (arith, high, apart)))
            ∙ ih
            ∙ ap₂ (λ a b. cond a (x ∷ before) before ++ cond b (x ∷ own) own) (sym (not_less s k high)) (sym (ne_eqb s k apart))
      ]
    ]

pub below_all : (setup : Trace) (xs : List Object) → AllByRecursion (IsDeclared setup) xs → objects_below xs (segment_count setup) ≡ xs
below_all setup [] all = refl
below_all setup (x ∷ xs) all =
    let low = (all.0).seg in
    ap (λ b. cond b (x ∷ objects_below xs (segment_count setup)) (objects_below xs (segment_count setup))) (lt-ltb x.name.seg.0 (segment_count setup) low)
    ∙ ap (λ ys. x ∷ ys) (below_all setup xs all.1)
