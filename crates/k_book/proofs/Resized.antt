-- The limits as the tree and the book's record have them: with their maxima, and without.
use Rattle.std.proofs.Common.{◌≡◌, ℕ, zero, suc, Bool, List, [], ◌∷◌, length, map, refl, sym, ap, ◌∙◌, replicate, slice_set}
use Rattle.std.proofs.lemmas.List.{length-replicate}
use Rattle.k_types.specs.declared.names.LimitId.{LimitId}
use Rattle.k_types.specs.declared.setup.LimitRow.{LimitRow}
use Rattle.k_types.specs.Limits.{with_maxima}
use Rattle.k_types.specs.Trace.{row_of}
use Rattle.k_types.proofs.Maxima.{length_in, maxima_count, own_maxima, twice_in}
use Rattle.k_book.specs.Entered.{EnteredValue}
use Rattle.k_book.specs.Kept.{KeptJournal}
use Rattle.k_limits.specs.Limits.{ChargedLimits, charged_limits}
use Rattle.k_shares.specs.Sharers.{ShareValue}
use Rattle.k_book.specs.Books.{BookRecord, book_by, book_limits, without_maxima}

-- the maxima of the rows where one has another
pub maxima_set : (rows : List LimitRow) (m max : ℕ) → map (λ row. row.max) (slice_set rows m (record (row_of rows m) { max = max })) ≡ slice_set (map (λ row. row.max) rows) m max
maxima_set [] m max = refl
maxima_set (row ∷ rows) zero max = refl
maxima_set (row ∷ rows) (suc m) max = ap (λ rest. row.max ∷ rest) (maxima_set rows m max)

-- without their maxima the rows are the same then
pub bare_set : (rows : List LimitRow) (m max : ℕ) → without_maxima (slice_set rows m (record (row_of rows m) { max = max })) ≡ without_maxima rows
bare_set [] m max = refl
bare_set (row ∷ rows) zero max = refl
bare_set (row ∷ rows) (suc m) max = ap (λ rest. record row { max = 0 } ∷ rest) (bare_set rows m max)

again : (rows : List LimitRow) → with_maxima (without_maxima rows) (map (λ row. row.max) rows) ≡ rows
again rows = twice_in rows (replicate (length rows) 0) (map (λ row. row.max) rows) (length-replicate (length rows) 0) (maxima_count rows) ∙ own_maxima rows

-- what the record of a book shows of its tree of limits
module _ (limits : ChargedLimits) (entered : EnteredValue) (table : ShareValue) (kept : KeptJournal) (procs : List LimitId) (ceiling : ℕ) (closed : Bool) (b : BookRecord) (view : book_by limits entered table kept procs ceiling closed ≡ b) where
  pub limits_seen : book_limits b ≡ limits
  limits_seen = sym (ap book_limits view) ∙ ap (λ rows. charged_limits rows limits.direct) (again limits.rows)

  pub rows_seen : b.rows ≡ without_maxima limits.rows
  rows_seen = sym (ap (λ (k : BookRecord). k.rows) view)

  pub count_seen : length b.rows ≡ length limits.rows
  count_seen = ap length rows_seen ∙ length_in limits.rows (replicate (length limits.rows) 0)
