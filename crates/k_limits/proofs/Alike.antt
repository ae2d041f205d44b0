-- A tree of roots alone.
use Rattle.std.proofs.Common.{◌≡◌, ◌<◌, ◌^◌, ℕ, zero, suc, refl, sym, ap, ◌∙◌, replicate, Some, None, arith}
use Rattle.std.proofs.lemmas.List.{length-replicate}
use Rattle.k_types.specs.declared.setup.LimitRow.{LimitRow}
use Rattle.k_types.specs.Trace.{row_of}
use Rattle.k_limits.specs.Rows.{AreRows}

row_alike : (n m : ℕ) (row : LimitRow) → m < n → row_of (replicate n row) m ≡ row
row_alike zero m row below = absurd (omega (arith, below))
row_alike (suc n) zero row below = refl
row_alike (suc n) (suc m) row below = row_alike n m row (omega (arith, below))

pub rows_alike : (n : ℕ) (row : LimitRow) → row.parent ≡ None → row.max < 2 ^ 40 → AreRows (replicate n row)
rows_alike n row root small = record {
  tree = λ m parent known is. absurd (let none : None ≡ Some parent = sym root ∙ ap (λ (r : LimitRow). r.parent) (sym (row_alike n m row (omega (arith, known, length-replicate n row)))) ∙ is in cc);
  small = λ m known. let same = ap (λ (r : LimitRow). r.max) (row_alike n m row (omega (arith, known, length-replicate n row))) in omega (arith, small, same);
}
