-- The opening of the table, in which every cell is in hand, and the notes that are split off one by one.
use Rattle.std.proofs.Common.{◌≡◌, ◌≢◌, ℕ, zero, suc, ◌+◌, ◌-◌, ◌<◌, ◌≤◌, List, [], ◌∷◌, ◌++◌, map, refl, sym, ap, ◌∙◌, subst, arith}
use mathlib.Core.Logic.{dite}
use native.Mathlib.Decide.{ℕ_discrete}
use mathlib.Core.Option.{some, some-injective, some-ne-none}
use lib.ListN.{get_elem?}
use Rattle.atomic_table.specs.Seated.{TableId}
use Rattle.k_types.specs.Numbers.{numbers_from}
use Rattle.k_tie.specs.declared.view.CellView.{CellView}
use Rattle.k_tie.specs.declared.view.View.{View}
use Rattle.k_tie.specs.declared.view.View.TheVariants.{Journal, Note}
use Rattle.k_tie.specs.Rule.{CellsFit, ViewFits, times_among, KeepsRule}
use Rattle.k_tie.specs.Steps.{blank_cell, opening_view, after_give, note_as_held}
use Rattle.k_tie.specs.Values.{NoteValue, blank_note, note_value}
use Rattle.k_types.proofs.Sums.{one_if_same-same, one_if_same-other}
use Rattle.k_types.specs.Counts.{one_if_same}

-- so many blank cells, from the first number up
abbrev pub blank_cells : ℕ → ℕ → List CellView
blank_cells first n = map blank_cell (numbers_from first n)

-- their notes
abbrev pub blank_notes : TableId → ℕ → ℕ → List NoteValue
blank_notes table first n = map (blank_note table) (numbers_from first n)

blank_fit : (c n : ℕ) → CellsFit [] [] (blank_cells c n)
blank_fit c zero = tt
blank_fit c (suc n) = ((([], refl), refl), blank_fit (suc c) n)

blank_below : (c d n : ℕ) → d < c → times_among d (blank_cells c n) ≡ 0
blank_below c d zero lt = refl
blank_below c d (suc n) lt = let z = one_if_same-other c d (λ e. omega arith) in let r = blank_below (suc c) d n (omega arith) in omega arith

blank_apart : (c d n : ℕ) → times_among d (blank_cells c n) ≤ 1
blank_apart c d zero = omega arith
blank_apart c d (suc n) = dite (ℕ_discrete c d)
    (λ (e : c ≡ d). let z = blank_below (suc c) d n (omega arith) in let o : one_if_same c d ≡ 1 = subst (λ y. one_if_same c y ≡ 1) e (one_if_same-same c) in omega arith)
    (λ (ne : c ≢ d). let z = one_if_same-other c d ne in let r = blank_apart (suc c) d n in omega arith)

pub opens : (n : ℕ) → KeepsRule (0 ∷ []) (opening_view n ∷ [])
opens n = record {
  list = [];
  touches = [];
  word = refl;
  one_journal = refl;
  fits = first;
  distinct = λ c. let a = blank_apart 0 c n in omega arith;
}
  where
    first : (j : ℕ) (v : View) → get_elem? (opening_view n ∷ []) j ≡ some v → ViewFits [] [] v
    first zero v e = subst (ViewFits [] []) (some-injective _ _ e) (refl, refl, blank_fit 0 n)
    first (suc j) v e = absurd (some-ne-none v (sym e))

pub given_blank : (c n : ℕ) → 0 < n → (note_as_held (Journal [] [] (blank_cells c n)) ≡ Note (blank_cell c)) × (after_give (Journal [] [] (blank_cells c n)) ≡ Journal [] [] (blank_cells (suc c) (n - 1)))
given_blank c zero lt = absurd (omega arith)
given_blank c (suc n) lt = (refl, ap (λ (m : ℕ). Journal [] [] (blank_cells (suc c) m)) (omega arith))

pub rest_blank : (c n : ℕ) → c < n → after_give (Journal [] [] (blank_cells c (n - c))) ≡ Journal [] [] (blank_cells (c + 1) (n - (c + 1)))
rest_blank c n lt = (given_blank c (n - c) (omega arith)).1 ∙ (λ i. Journal [] [] (blank_cells (a i) (b i)))
  where
    a : suc c ≡ c + 1
    a = omega arith

    b : n - c - 1 ≡ n - (c + 1)
    b = omega arith

pub blank_push : (t : TableId) (c n : ℕ) → blank_notes t c (n + 1) ≡ blank_notes t c n ++ blank_note t (c + n) ∷ []
blank_push t c zero =
    let e : c ≡ c + 0 = omega arith in ap (λ (d : ℕ). blank_note t d ∷ []) e
blank_push t c (suc n) =
    let a : suc n + 1 ≡ suc (n + 1) = omega arith in
    let b : suc c + n ≡ c + suc n = omega arith in
    ap (λ (m : ℕ). blank_notes t c m) a ∙ ap (λ r. blank_note t c ∷ r) (blank_push t (suc c) n ∙ ap (λ (d : ℕ). blank_notes t (suc c) n ++ blank_note t d ∷ []) b)

pub next_note : (t u : TableId) (v : View) (k : ℕ) → t ≡ u → v ≡ Note (blank_cell k) → note_value t v ≡ blank_note u (0 + k)
next_note t u v k same is = (λ j. note_value (same j) (is j)) ∙ (let z : k ≡ 0 + k = omega arith in ap (λ (d : ℕ). blank_note u d) z)
