-- Rows of the limits with the maxima that they have now.
use Rattle.std.proofs.Common.{◌≡◌, ℕ, zero, suc, ◌<◌, refl, ap, ◌∙◌, List, [], ◌∷◌, length, get_or, arith}
use Rattle.k_types.specs.declared.setup.LimitRow.{LimitRow}
use Rattle.k_types.specs.Trace.{row_of}
use Rattle.k_types.specs.Limits.{with_maxima}

pub row_in : (rows : List LimitRow) (maxima : List ℕ) (m : ℕ) (d : ℕ) → m < length rows → length maxima ≡ length rows →
    row_of (with_maxima rows maxima) m ≡ record (row_of rows m) { max = get_or maxima m d }
row_in [] maxima m d inside same = absurd (omega arith)
row_in (row ∷ rows) [] m d inside same = absurd (omega arith)
row_in (row ∷ rows) (max ∷ maxima) zero d inside same = refl
row_in (row ∷ rows) (max ∷ maxima) (suc m) d inside same = row_in rows maxima m d (omega arith) (omega arith)

-- a new maximum leaves the limit in its place
pub hard_kept : (rows : List LimitRow) (maxima : List ℕ) (m : ℕ) (row : LimitRow) → m < length rows → length maxima ≡ length rows →
    row ≡ row_of (with_maxima rows maxima) m → row.hard ≡ (row_of rows m).hard
hard_kept rows maxima m row inside same is = ap (λ (r : LimitRow). r.hard) (is ∙ row_in rows maxima m 0 inside same)

pub parent_kept : (rows : List LimitRow) (maxima : List ℕ) (m : ℕ) (row : LimitRow) → m < length rows → length maxima ≡ length rows →
    row ≡ row_of (with_maxima rows maxima) m → row.parent ≡ (row_of rows m).parent
parent_kept rows maxima m row inside same is = ap (λ (r : LimitRow). r.parent) (is ∙ row_in rows maxima m 0 inside same)
