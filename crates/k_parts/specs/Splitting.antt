-- How a host is taken apart.
use Rattle.std.specs.Prelude.{◌≡◌, ℕ, [], List, Option, Some, map, slice_get}
use Rattle.k_types.specs.declared.names.CellPhase.TheVariants.{Idle}
use Rattle.k_shared.specs.SharedHeaps.{SharedRecord}
use Rattle.k_ends.specs.k_guests.declared.guest.Guest.{Guest}
use Rattle.k_host.specs.Hosts.{HostValue}
use Rattle.k_parts.specs.declared.head.Head.{Head}
use Rattle.k_parts.specs.Parts.{BookPartValue, GuestPartValue, GuestRests, Home, KernelPartValue, SharedPartValue, SharedRests, home_at}

-- no collection is open: one could never be ended, since the calls over parts begin and end theirs
pub record IsAtRest (h : HostValue) : Type 0 where
  pub guests : (k : ℕ) (g : Guest) → slice_get h.guests k ≡ Some g → g.cell.value.collection ≡ Idle
  pub kernel : h.kernel.value.collection ≡ Idle

-- each of these processes rests, and each of these shared heaps
abbrev pub GuestsRest : Option Home → Head → List Guest → Type 0
GuestsRest named head guests = (k : ℕ) (g : Guest) → slice_get guests k ≡ Some g → GuestRests named (home_at head g.cell.note.table) g

abbrev pub HeapsRest : Option Home → Head → List SharedRecord → Type 0
HeapsRest named head heaps = (k : ℕ) (s : SharedRecord) → slice_get heaps k ≡ Some s → SharedRests named (home_at head s.note.table) s

-- the parts of the host know it by this number
abbrev pub home_of : HostValue → ℕ → Home
home_of h number = record { basis = h.basis; number = number; table = h.book.journal.table }

-- a process of that host, and a shared heap of it
abbrev pub guest_in : Home → Guest → GuestPartValue
guest_in home g = record { home = home; guest = g }

abbrev pub heap_in : Home → SharedRecord → SharedPartValue
heap_in home s = record { home = home; heap = s }

-- the parts are those of the host, each by itself, there is no name yet of what was freed, and no event was taken out
pub record AreSplit (h : HostValue) (number most_freed : ℕ) (guests : List GuestPartValue) (kernel : KernelPartValue) (shared : List SharedPartValue) (book : BookPartValue) : Type 0 where
  pub guests_are : guests ≡ map (guest_in (home_of h number)) h.guests
  pub kernel_is : kernel ≡ record { home = home_of h number; kernel = h.kernel }
  pub heaps_are : shared ≡ map (heap_in (home_of h number)) h.shared
  pub book_is : book ≡ record { home = home_of h number; book = h.book; freed = []; room = most_freed; taken = 0 }
