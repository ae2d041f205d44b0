-- A host whose rooms are made larger while it lives.
use Rattle.std.specs.Prelude.{◌≡◌, ℕ, length, map}
use Rattle.k_ends.specs.k_guests.declared.rooms.Rooms.{Rooms}
use Rattle.k_ends.specs.k_guests.Growing.{AreKept, AreLarger, basis_with_rooms, book_with_rooms, guest_with_rooms, heap_with_rooms, kernel_with_rooms}
use Rattle.k_host.specs.declared.errors.GrowError.{GrowError}
use Rattle.k_host.specs.declared.errors.GrowError.TheVariants.{NoMemory, Rooms as Refused}
use Rattle.k_host.specs.Hosts.{HostValue}

-- the host with these rooms, where so many of the last events can be read, and nothing else of it changed
abbrev pub with_rooms : Rooms → ℕ → HostValue → HostValue
with_rooms rooms kept h = record {
  basis = basis_with_rooms h.basis rooms kept;
  guests = map (guest_with_rooms rooms) h.guests;
  kernel = kernel_with_rooms rooms h.kernel;
  shared = map (heap_with_rooms rooms) h.shared;
  book = book_with_rooms rooms kept h.book;
}

-- the host has these rooms, which are larger ones, so many of the last events can be read, and nothing else has changed
pub record HasGrown (old new : HostValue) (rooms : Rooms) (kept : ℕ) : Type 0 where
  pub larger : AreLarger (length old.guests) old.basis.rooms rooms
  pub host_is : new ≡ with_rooms rooms kept old
  pub kept_are : AreKept (length old.book.journal.list) old.basis.rooms.kept rooms.kept kept

-- the host does not get these rooms: they are larger ones and memory ran out, or they are not larger ones
abbrev pub IsNotGrown : HostValue → Rooms → GrowError → Type 0
IsNotGrown h rooms (NoMemory refused) = AreLarger (length h.guests) h.basis.rooms rooms
IsNotGrown h rooms Refused = ¬ (AreLarger (length h.guests) h.basis.rooms rooms)
