-- The lines of work, which stand behind a report.
use Rattle.std.specs.Prelude.{ℕ, List, [], ◌∷◌, ◌++◌, map, length, slice_index_or, decimal, codes}
use Rattle.k_types.specs.Numbers.{numbers_below}
use Rattle.k_words.specs.Words.{Text, text_of, word_at}
use Rattle.k_trace.specs.Named.{DeclaredNames}
use Rattle.k_work.specs.declared.rows.WorkRow.{WorkRow}
use Rattle.k_work.specs.Tables.{Work, total_row}

-- the two numbers of a row: how many collections, and their work
abbrev pub row_words : WorkRow → List Text
row_words r = decimal r.collections ∷ decimal r.work ∷ []

-- the row of a process
abbrev pub row_at : Work → ℕ → WorkRow
row_at t p = slice_index_or t.procs p (record { collections = 0; work = 0 })

-- the line of a process
unfoldable pub process_line : DeclaredNames → Work → ℕ → List Text
process_line names t p = codes "process" ∷ word_at names.procs p ∷ row_words (row_at t p)

-- the lines: `work`, one for each process, that of the closing, that of the sum, and `end`
unfoldable pub work_lines : DeclaredNames → Work → List (List Text)
work_lines names t =
    ((((codes "work" ∷ []) ∷ [] ++ map (process_line names t) (numbers_below (length t.procs)))
    ++ (codes "closing" ∷ row_words t.closing) ∷ [])
    ++ (codes "total" ∷ row_words (total_row t)) ∷ [])
    ++ (codes "end" ∷ []) ∷ []

-- their text
abbrev pub work_text : DeclaredNames → Work → Text
work_text names t = text_of (work_lines names t)
