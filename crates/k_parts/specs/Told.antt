-- What a part tells.
use Rattle.std.specs.Prelude.{ℕ, ◌+◌, ◌==◌, nat_lt, if◌then◌else◌, Option, None, Result, Ok, Err, length, slice_get}
use Rattle.k_types.specs.declared.event.Event.{Event}
use Rattle.k_host.specs.Asked.{charge_by}
use Rattle.k_host.specs.Hosts.{next_from}
use Rattle.k_parts.specs.declared.errors.PartError.{PartError}
use Rattle.k_parts.specs.declared.errors.PartError.TheVariants.{Mixed}
use Rattle.k_parts.specs.Parts.{BookPartValue, GuestPartValue}

-- the event of that number, where it is among the last that can be read
abbrev pub event_in : BookPartValue → ℕ → Option Event
event_in b number = if nat_lt (number + b.home.basis.rooms.kept) (length b.book.journal.list) then None else slice_get b.book.journal.list number

-- the number of the first event that was neither taken out nor passed over, and is still among the last that can be read
abbrev pub next_event : BookPartValue → ℕ
next_event b = next_from b.book b.home.basis.rooms.kept b.taken

-- what the process is charged, by its part and the book's, where they have one number
abbrev pub charge_in : GuestPartValue → BookPartValue → Result ℕ PartError
charge_in p b = if p.home.number == b.home.number then Ok (charge_by p.home.basis.trace b.book.value p.guest) else Err Mixed
