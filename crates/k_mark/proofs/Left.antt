-- What is left to do, and what the black objects cost.
use Rattle.std.proofs.Common.{ℕ, ◌+◌, cond, Option, Some, None, count_by}
use Rattle.k_space.specs.Segments.{Row, is_black}
use Rattle.k_space.specs.Areas.{AreaValue, rows_total}
use Rattle.k_mark.specs.Marking.{is_ref}

-- not black, so that it is still to do
abbrev pub todo_row : Option Row → ℕ
todo_row None = 0
todo_row (Some row) = cond (is_black row.color) 0 1

abbrev pub left : AreaValue → ℕ
left a = rows_total todo_row a

abbrev pub black_row : Option Row → ℕ
black_row None = 0
black_row (Some row) = cond (is_black row.color) (count_by is_ref row.fields + 1) 0

abbrev pub black_work : AreaValue → ℕ
black_work a = rows_total black_row a
