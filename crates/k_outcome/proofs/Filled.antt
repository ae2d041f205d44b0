-- Rows that are filled one after the other, each with the targets of a heap's exit items in order.
use Rattle.std.proofs.Common.{◌≡◌, ℕ, zero, suc, ◌+◌, ◌<◌, ◌≤◌, refl, sym, ap, ◌∙◌, subst, inl, inr, List, [], ◌∷◌, get_or, length, map, set, vec_capacity, Vec, Global, arith}
use Rattle.std.proofs.lemmas.Bool.{cases_eq}
use Rattle.std.proofs.lemmas.List.{get_or-set_other, get_or-set_same, length-map, length-set}
use Rattle.std.proofs.lemmas.Option.{slice_get-get_or}
use Rattle.k_types.specs.declared.names.Name.{Name}
use Rattle.k_types.specs.Distinct.{AreDistinctNames}
use Rattle.k_types.proofs.Numbered.{element_at}
use Rattle.k_types.specs.Trace.{Trace, segment_count}
use Rattle.k_text.specs.Shown.{in_order}
use Rattle.k_text.specs.Heaps.{heap_at}
use Rattle.k_text.proofs.Arranged.{row_at}
use Rattle.k_process.specs.Over.{OutcomeValue}
use Rattle.k_outcome.specs.Cells.{cell_at}
use Rattle.k_outcome.specs.Listed.{AreTargets, CanList}

-- the targets of the exit items of the heap that begins with the segment
abbrev pub exits_at : Trace → OutcomeValue → ℕ → List Name
exits_at setup o seg = (cell_at o (heap_at setup seg)).exits

-- the rows before the one are filled, and the others are empty and have room
pub record AreFilledTo (setup : Trace) (o : OutcomeValue) (rows : List (Vec Name Global)) (seg : ℕ) : Type 0 where
  pub sized : length rows ≡ segment_count setup
  pub filled : (k : ℕ) (d : Vec Name Global) → k < seg → k < length rows → (get_or rows k d).items ≡ in_order (exits_at setup o k)
  pub empty : (k : ℕ) (d : Vec Name Global) → seg ≤ k → k < length rows → (get_or rows k d).items ≡ []
  pub room : (k : ℕ) (d : Vec Name Global) → seg ≤ k → k < length rows → AreDistinctNames (exits_at setup o k) → length (exits_at setup o k) ≤ vec_capacity (get_or rows k d)

capacity_at : (rows : List (Vec Name Global)) (k : ℕ) (d : Vec Name Global) → k < length rows → get_or (map (λ (row : Vec Name Global). vec_capacity row) rows) k 0 ≡ vec_capacity (get_or rows k d)
capacity_at [] k d inside = absurd (omega (arith, inside))
capacity_at (row ∷ rows) zero d inside = refl
capacity_at (row ∷ rows) (suc k) d inside = capacity_at rows k d (omega (arith, inside))

module _ (setup : Trace) (o : OutcomeValue) (rows : List (Vec Name Global)) where
  pub rows_sized : CanList setup o rows → length rows ≡ segment_count setup
  rows_sized c = sym (length-map rows (λ (row : Vec Name Global). vec_capacity row)) ∙ c.room.sized

  pub filled_none : CanList setup o rows → AreFilledTo setup o rows 0
  filled_none c = record {
    sized = rows_sized c;
    filled = λ k d low inside. absurd (omega (arith, low));
    empty = λ k d low inside. c.empty k (get_or rows k d) (slice_get-get_or rows k d inside);
    room = λ k d low inside distinct. subst (λ n. length (exits_at setup o k) ≤ n) (capacity_at rows k d inside) (c.room.each k (subst (λ n. k < n) (rows_sized c) inside) distinct);
  }

  pub filled_one : (seg : ℕ) (row : Vec Name Global) → seg < length rows → AreFilledTo setup o rows seg → row.items ≡ in_order (exits_at setup o seg) → AreFilledTo setup o (set rows seg row) (seg + 1)
  filled_one seg row inside f is = record {
    sized = length-set rows seg row ∙ f.sized;
    filled = λ k d low within.
        let there : k < length rows = subst (λ n. k < n) (length-set rows seg row) within in
        elim (cases_eq k seg) [
          | inl same ↦ subst (λ j. (get_or (set rows seg row) j d).items ≡ in_order (exits_at setup o j)) (sym same) (ap (λ (v : Vec Name Global). v.items) (get_or-set_same rows seg row d inside) ∙ is)
          | inr apart ↦ ap (λ (v : Vec Name Global). v.items) (get_or-set_other rows seg k row d apart) ∙ f.filled k d (omega (arith, low, apart)) there
        ];
    empty = λ k d low within.
        ap (λ (v : Vec Name Global). v.items) (get_or-set_other rows seg k row d (λ e. absurd (omega (arith, e, low))))
        ∙ f.empty k d (omega (arith, low)) (subst (λ n. k < n) (length-set rows seg row) within);
    room = λ k d low within distinct.
        subst (λ (v : Vec Name Global). length (exits_at setup o k) ≤ vec_capacity v) (sym (get_or-set_other rows seg k row d (λ e. absurd (omega (arith, e, low)))))
        (f.room k d (omega (arith, low)) (subst (λ n. k < n) (length-set rows seg row) within) distinct);
  }

  pub filled_all : (seg : ℕ) → segment_count setup ≤ seg → AreFilledTo setup o rows seg → AreTargets setup o (map (λ (row : Vec Name Global). row.items) rows)
  filled_all seg all f = record {
    sized = length-map rows (λ (row : Vec Name Global). row.items) ∙ f.sized;
    each = λ k known.
        let inside : k < length rows = subst (λ n. k < n) (sym f.sized) known in
        let row = (element_at rows k inside).0 in
        row_at rows k row inside ∙ f.filled k row (omega (arith, known, all)) inside;
  }
