-- What contracts see of the journal that the book keeps.
use Rattle.std.specs.Prelude.{◌≡◌, ℕ, ◌-◌, ◌<◌, ◌≤◌, ◌^◌, List, [], ◌∷◌, ◌++◌, drop, length, replicate}
use Rattle.atomic_table.specs.Seated.{TableId}
use Rattle.circular_buffer.specs.Buffer.{Buffer}
use Rattle.k_types.specs.declared.event.Event.{Event}
use Rattle.k_tie.specs.Values.{JournalValue}
use Rattle.k_book.specs.Objects.{objects_told}

-- the journal as its seat knows it, for how many events there is room, and how many of the last ones can be read
pub record KeptJournal : Type 0 where
  pub journal : JournalValue
  pub room : ℕ
  pub kept : ℕ

-- one event more
abbrev pub with_event : Event → JournalValue → JournalValue
with_event event journal = record journal { list = journal.list ++ event ∷ [] }

-- these events more
abbrev pub with_events : List Event → JournalValue → JournalValue
with_events events journal = record journal { list = journal.list ++ events }

-- one touch more of the cell
abbrev pub with_touch : ℕ → JournalValue → JournalValue
with_touch cell journal = record journal { touches = cell ∷ journal.touches }

-- so many touches more of the cell
abbrev pub with_touches : ℕ → ℕ → JournalValue → JournalValue
with_touches times cell journal = record journal { touches = replicate times cell ++ journal.touches }

-- the seat is of that table, the count is that of the events that it knows, for which there is room, the objects are counted by them, and all
-- of them are held but for some of the first, which are none of the last so many. There are fewer than 2^55, so that the bytes of two heaps
-- with as many objects fit 64 bits
pub record AreKept (table : TableId) (journal : JournalValue) (count objects room kept : ℕ) (last : Buffer Event) : Type 0 where
  pub same : journal.table ≡ table
  pub counted : count ≡ length journal.list
  pub objects_counted : objects ≡ objects_told journal.list
  pub within : length journal.list ≤ room
  pub few : room < 2 ^ 55
  pub gone : ℕ
  pub held : last.items ≡ drop gone journal.list
  pub reach : gone ≤ length journal.list - kept
  pub fits : length last.items ≤ last.capacity
  pub fit : kept ≤ last.capacity
