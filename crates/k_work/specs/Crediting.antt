-- How a table takes a credit, and what it has room for.
use Rattle.std.specs.Prelude.{ℕ, ◌+◌, ◌<◌, ◌^◌, List, [], ◌∷◌, Option, Some, None, length, slice_set}
use Rattle.k_types.specs.declared.event.Event.{Event}
use Rattle.k_work.specs.declared.rows.WorkRow.{WorkRow}
use Rattle.k_work.specs.Credits.{Credit, kernel_asker}
use Rattle.k_work.specs.Lines.{row_at}
use Rattle.k_work.specs.Tables.{Work, total_row}

-- the row with one collection more
abbrev pub with_work : ℕ → WorkRow → WorkRow
with_work work r = record { collections = r.collections + 1; work = r.work + work }

-- the table with that work credited
abbrev pub with_credit : Option ℕ → ℕ → Work → Work
with_credit None work t = record t { closing = with_work work t.closing }
with_credit (Some p) work t = record t { procs = slice_set t.procs p (with_work work (row_at t p)) }

-- the table with these credits
abbrev pub with_credits : List Credit → Work → Work
with_credits [] t = t
with_credits (c ∷ cs) t = with_credits cs (with_credit c.to c.work t)

-- the row of a process, or, as none, of the closing
abbrev pub row_for : Work → Option ℕ → WorkRow
row_for t None = t.closing
row_for t (Some p) = row_at t p

-- a process below so many, or the closing
abbrev pub IsAmong : ℕ → Option ℕ → Type 0
IsAmong processes None = Unit {0}
IsAmong processes (Some p) = p < processes

-- one collection more with that work fits the row
abbrev pub HasRoomFor : ℕ → WorkRow → Type 0
HasRoomFor work r = (r.collections + 1 < 2 ^ 32) × (r.work + work < 2 ^ 64)

-- the table has room for these credits
abbrev pub HasRoomForAll : Work → List Credit → Type 0
HasRoomForAll t [] = Unit {0}
HasRoomForAll t (c ∷ cs) = IsAmong (length t.procs) c.to × HasRoomFor c.work (row_for t c.to) × HasRoomForAll (with_credit c.to c.work t) cs

-- the sums of all rows are numbers of 32 and 64 bits
pub record AreSmall (t : Work) : Type 0 where
  pub collections : (total_row t).collections < 2 ^ 32
  pub work : (total_row t).work < 2 ^ 64

-- who asked for the kernel's last collection, after these events
abbrev pub kernel_after : Option ℕ → List Event → Option ℕ
kernel_after who [] = who
kernel_after who (event ∷ events) = kernel_after (kernel_asker event who) events
