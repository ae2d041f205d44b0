-- What contracts see of the book.
use Rattle.std.specs.Prelude.{ℕ, ◌+◌, ◌*◌, ◌^◌, ◌<◌, Bool, List, [], map, length, replicate}
use Rattle.k_types.specs.declared.names.LimitId.{LimitId}
use Rattle.k_types.specs.declared.setup.LimitRow.{LimitRow}
use Rattle.k_types.specs.declared.setup.Setup.{Setup}
use Rattle.k_types.specs.Agree.{BookValue}
use Rattle.k_types.specs.Bounds.{register_count}
use Rattle.k_types.specs.Limits.{with_maxima}
use Rattle.k_types.specs.Trace.{trace_of}
use Rattle.k_limits.specs.Limits.{ChargedLimits, charged_limits}
use Rattle.k_entry.specs.Entries.{EntryValue}
use Rattle.k_agree.specs.k_tie.Values.{JournalValue}
use Rattle.k_agree.specs.Opening.{opening_book}
use Rattle.k_shares.specs.Sharers.{ShareValue}
use Rattle.k_book.specs.Kept.{KeptJournal}
use Rattle.k_book.specs.Entered.{EnteredValue}

-- the limits with no maxima: which is whose parent, and which are hard
abbrev pub without_maxima : List LimitRow → List LimitRow
without_maxima rows = with_maxima rows (replicate (length rows) 0)

-- what is seen of the state, the journal, and what a step has to know beside: the limits without the maxima, which are of the state,
-- the limit of each process, the kernel's ceiling, for how many entry items, pins and events there is room, and how many of the last
-- events can be read
pub record BookRecord : Type 0 where
  pub value : BookValue
  pub journal : JournalValue
  pub rows : List LimitRow
  pub procs : List LimitId
  pub ceiling : ℕ
  pub entry_room : ℕ
  pub pin_room : ℕ
  pub event_room : ℕ
  pub kept : ℕ

-- the limits with their maxima and what is charged directly at each
abbrev pub book_limits : BookRecord → ChargedLimits
book_limits b = charged_limits (with_maxima b.rows b.value.maxima) b.value.direct

-- the entry items with the owners of the segments
abbrev pub book_entries : BookRecord → EntryValue
book_entries b = record { items = b.value.entries; homes = b.value.homes; room = b.entry_room }

-- the pins with the owners of the segments
abbrev pub book_pins : BookRecord → EntryValue
book_pins b = record { items = b.value.pins; homes = b.value.homes; room = b.pin_room }

-- what is seen of the parts of a book
abbrev pub book_by : ChargedLimits → EnteredValue → ShareValue → KeptJournal → List LimitId → ℕ → Bool → BookRecord
book_by limits entered table kept procs ceiling closed = record {
  value = record {
    ended = table.ended;
    closed = closed;
    shares = table.shares;
    phases = table.phases;
    shared_bytes = table.shared_bytes;
    direct = limits.direct;
    maxima = map (λ row. row.max) limits.rows;
    homes = entered.homes;
    entries = entered.entries;
    pins = entered.pins;
  };
  journal = kept.journal;
  rows = without_maxima limits.rows;
  procs = procs;
  ceiling = ceiling;
  entry_room = entered.entry_room;
  pin_room = entered.pin_room;
  event_room = kept.room;
  kept = kept.kept;
}

-- room for the pins of all registers and for one more, since a step takes the new pin before it lets the old one go
abbrev pub pin_room_of : ℕ → ℕ
pin_room_of procs = register_count * procs + 1

-- the segments of the setup, and the pins of all registers, can be numbered by 32 bits
abbrev pub HasFewSegments : Setup → Type 0
HasFewSegments setup = length setup.procs.items + setup.shared < 2 ^ 27

-- the book of that setup before the first event, with room for so many exit items and events, of which so many of the last can be read
abbrev pub opened : Setup → ℕ → ℕ → ℕ → JournalValue → BookRecord
opened setup exits events kept journal = record {
  value = opening_book (trace_of setup [] []);
  journal = journal;
  rows = without_maxima setup.limits.items;
  procs = setup.procs.items;
  ceiling = setup.ceiling;
  entry_room = exits;
  pin_room = pin_room_of (length setup.procs.items);
  event_room = events;
  kept = kept;
}
