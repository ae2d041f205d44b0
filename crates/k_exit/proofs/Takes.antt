-- What is left after one target of distinct ones was taken.
use Rattle.std.proofs.Common.{◌≡◌, ℕ, ◌+◌, ◌&&◌, ◌||◌, not, Bool, true, false, cond, refl, sym, ap, ap₂, ◌∙◌, List, [], ◌∷◌, length, count_by, arith}
use Rattle.std.specs.List.{list_any}
use Rattle.std.specs.List.Sorted.{IsPermutation}
use Rattle.std.proofs.lemmas.Bool.{false≢true, false_from_ne_true}
use Rattle.std.proofs.lemmas.List.Sorted.{list_any-IsPermutation, sum_by-IsPermutation, length_permutation}
use Rattle.k_types.specs.declared.names.Name.{Name}
use Rattle.k_types.specs.Names.{name_eq}
use Rattle.k_types.specs.Distinct.{AreDistinctNames}
use Rattle.k_types.proofs.Distinct.{distinct_names, counted_once}
use Rattle.k_exit.specs.Exits.{ExitRow, AreDistinct, targets}
use Rattle.k_exit.proofs.Lists.{count-cons}

abbrev bit : Bool → ℕ
bit b = cond b 1 0

or_false : (b : Bool) → (b || false) ≡ b
or_false true = refl
or_false false = refl

and_true : (b : Bool) → (b && true) ≡ b
and_true true = refl
and_true false = refl

and_false : (b : Bool) → (b && false) ≡ false
and_false true = refl
and_false false = refl

-- a target that is counted nowhere passes no test of its own
none_passes : (p : ExitRow → Bool) (n : Name) → ((x : ExitRow) → p x ≡ true → name_eq x.target n ≡ true) → (rows : List ExitRow) → count_by (λ (e : ExitRow). name_eq e.target n) rows ≡ 0 → list_any p rows ≡ false
none_passes p n own [] none = refl
none_passes p n own (x ∷ xs) none =
    ap₂ (λ a b. a || b) (false_from_ne_true (p x) (λ e. absurd (let one : bit (name_eq x.target n) ≡ 1 = ap bit (own x e) in omega (arith, count-cons n x xs, one, none))))
    (none_passes p n own xs (omega (arith, count-cons n x xs, none)))

-- a test that only the items of one target pass: the others are left
pub left_over : (p : ExitRow → Bool) (n : Name) → ((x : ExitRow) → p x ≡ true → name_eq x.target n ≡ true) → (rows rest : List ExitRow) (row : ExitRow) → IsPermutation rows (row ∷ rest) → AreDistinct rows →
    list_any p rest ≡ (list_any p rows && not (name_eq row.target n))
left_over p n own rows rest row gone distinct = by_name (name_eq row.target n) refl
  where
    same : list_any p rows ≡ (p row || list_any p rest)
    same = list_any-IsPermutation p rows (row ∷ rest) gone

    by_name : (b : Bool) → name_eq row.target n ≡ b → list_any p rest ≡ (list_any p rows && not b)
    by_name true is =
        let one : bit (name_eq row.target n) ≡ 1 = ap bit is in
        let counts : count_by (λ (e : ExitRow). name_eq e.target n) (row ∷ rest) ≡ count_by (λ (e : ExitRow). name_eq e.target n) rows = sum_by-IsPermutation (λ (e : ExitRow). cond (name_eq e.target n) 1 0) rows (row ∷ rest) gone in
        none_passes p n own rest (omega (arith, counts, count-cons n row rest, one, distinct n)) ∙ sym (and_false (list_any p rows))
    by_name false is =
        let off : p row ≡ false = false_from_ne_true (p row) (λ e. false≢true (sym is ∙ own row e)) in
        sym (and_true (list_any p rows) ∙ same ∙ ap (λ b. b || list_any p rest) off)

pub one_fewer : (rows rest : List ExitRow) (row : ExitRow) → IsPermutation rows (row ∷ rest) → length rest + 1 ≡ length rows
one_fewer rows rest row gone = omega (arith, length_permutation rows (row ∷ rest) gone)

-- both forms of distinctness say the same
pub targets_distinct : (items : List ExitRow) → AreDistinct items → AreDistinctNames (targets items)
targets_distinct items once = distinct_names (λ (x : ExitRow). x.target) items once

pub targets_once : (items : List ExitRow) → AreDistinctNames (targets items) → AreDistinct items
targets_once items distinct = counted_once (λ (x : ExitRow). x.target) items distinct
