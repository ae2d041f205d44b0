-- The table of work.
use Rattle.std.specs.Prelude.{ℕ, ◌+◌, ◌==◌, Bool, true, false, List, map, Option, Some, None, if◌then◌else◌}
use Rattle.k_types.specs.declared.event.Event.{Event}
use Rattle.k_types.specs.declared.event.Event.TheVariants.{Ended}
use Rattle.k_types.specs.Numbers.{numbers_below}
use Rattle.k_types.specs.Totals.{total}
use Rattle.k_types.specs.Trace.{Trace, process_count}
use Rattle.k_work.specs.declared.rows.WorkRow.{WorkRow}
use Rattle.k_work.specs.Credits.{Credit, credits}

-- both are the same process, or both the closing
abbrev pub is_same : Option ℕ → Option ℕ → Bool
is_same None None = true
is_same None (Some q) = false
is_same (Some p) None = false
is_same (Some p) (Some q) = p == q

-- one where the credit is theirs
abbrev pub one_if_to : Option ℕ → Credit → ℕ
one_if_to to credit = if is_same to credit.to then 1 else 0

-- the work of the credit where it is theirs
abbrev pub work_if_to : Option ℕ → Credit → ℕ
work_if_to to credit = if is_same to credit.to then credit.work else 0

-- how many of the credits are theirs, and the sum of their work
abbrev pub row_of : List Credit → Option ℕ → WorkRow
row_of list to = record { collections = total (one_if_to to) list; work = total (work_if_to to) list }

-- a row for each process, in order, and the row of the closing
pub record Work : Type 0 where
  pub procs : List WorkRow
  pub closing : WorkRow

-- the table of the credits, for so many processes
abbrev pub table_of : ℕ → List Credit → Work
table_of processes list = record { procs = map (λ p. row_of list (Some p)) (numbers_below processes); closing = row_of list None }

-- the work of a history
abbrev pub work_of : Trace → List Event → Work
work_of trace history = table_of (process_count trace) (credits trace history)

-- the sum of all rows
abbrev pub total_row : Work → WorkRow
total_row t = record { collections = total (λ r. r.collections) t.procs + t.closing.collections; work = total (λ r. r.work) t.procs + t.closing.work }

-- one for the end of a collection
abbrev pub ends_in : Event → ℕ
ends_in (Ended h objects bytes exits shares) = 1
ends_in _ = 0
