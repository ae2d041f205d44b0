-- What is seen of a host, and what it keeps.
use Rattle.std.specs.Prelude.{◌≡◌, ℕ, ◌+◌, ◌-◌, nat_lt, if◌then◌else◌, List, Option, Some, None, [], length, slice_get}
use Rattle.k_types.specs.declared.event.Event.{Event}
use Rattle.k_types.specs.declared.names.CellPhase.{CellPhase}
use Rattle.k_types.specs.declared.names.CellPhase.TheVariants.{Idle}
use Rattle.k_book.specs.Books.{BookRecord}
use Rattle.k_cell.specs.Holdings.{HoldingsValue}
use Rattle.k_shared.specs.SharedHeaps.{SharedRecord}
use Rattle.k_ends.specs.k_guests.declared.guest.Guest.{Guest}
use Rattle.k_ends.specs.k_guests.declared.making.Parts.{Parts}
use Rattle.k_ends.specs.k_guests.declared.terms.Terms.{Terms}
use Rattle.k_ends.specs.k_guests.Enough.{greater}
use Rattle.k_ends.specs.k_guests.Making.{IsFirstGuest}
use Rattle.k_ends.specs.k_guests.Serving.{Basis, GuestsServe, HasTailRoom, RestServes, basis_of}

-- a host: what its parts have in common, its processes, the cells of the kernel and of the shared heaps, and the book
pub record HostValue : Type 0 where
  pub basis : Basis
  pub guests : List Guest
  pub kernel : HoldingsValue
  pub shared : List SharedRecord
  pub book : BookRecord

-- the host of these parts, which is made for these terms
abbrev pub host_of_parts : Terms → Parts → HostValue
host_of_parts terms parts = record { basis = basis_of terms; guests = parts.guests.items; kernel = parts.kernel; shared = parts.shared.items; book = parts.book }

-- one event more of each process can be unpublished
abbrev pub HaveTailRoom : Basis → List Guest → Type 0
HaveTailRoom basis guests = (k : ℕ) (g : Guest) → slice_get guests k ≡ Some g → HasTailRoom basis g

-- all parts serve, and one event more of each process can be unpublished
pub record HostServes (h : HostValue) : Type 0 where
  pub all : GuestsServe h.basis h.book.journal.table h.guests
  pub rest : RestServes h.basis h.kernel h.shared h.book
  pub few : HaveTailRoom h.basis h.guests

-- the event of that number, where it is among the last that can be read
abbrev pub event_of : HostValue → ℕ → Option Event
event_of h number = if nat_lt (number + h.basis.rooms.kept) (length h.book.journal.list) then None else slice_get h.book.journal.list number

-- the number of the first event from that one on that is still among the last so many
abbrev pub next_from : BookRecord → ℕ → ℕ → ℕ
next_from b kept from = greater from (length b.journal.list - kept)

-- how many events of the process the journal lacks
abbrev pub unpublished_of : Guest → ℕ
unpublished_of g = length g.cell.value.tail

-- how far the collection of the process's heap has come
abbrev pub collection_of : Guest → CellPhase
collection_of g = g.cell.value.collection

-- nothing has happened yet: all parts serve, the journal is empty, no collection is open, and each process has so many bodies
pub record IsFresh (basis : Basis) (bodies : ℕ) (h : HostValue) : Type 0 where
  pub basis_is : h.basis ≡ basis
  pub serves : HostServes h
  pub journal : h.book.journal.list ≡ []
  pub guests : (k : ℕ) (g : Guest) → slice_get h.guests k ≡ Some g → IsFirstGuest bodies g
  pub kernel : h.kernel.value.collection ≡ Idle
