-- All parts of one host.
use Rattle.std.specs.Prelude.{◌≡◌, ℕ, List, Option, Some, length, slice_get}
use Rattle.k_types.specs.Trace.{process_count}
use Rattle.k_book.specs.Books.{BookRecord}
use Rattle.k_cell.specs.Holdings.{HoldingsValue}
use Rattle.k_shared.specs.SharedHeaps.{SharedRecord}
use Rattle.k_ends.specs.k_guests.declared.guest.Guest.{Guest}
use Rattle.k_host.specs.Hosts.{HostValue}
use Rattle.k_parts.specs.Parts.{BookRests, GuestRests, Home, KernelRests, SharedRests}

-- each part rests and is of the host, and there is one for each process and each shared heap, in the place of its number
pub record AreAllPartsOf (named : Option Home) (home : Home) (guests : List Guest) (k : HoldingsValue) (shared : List SharedRecord) (b : BookRecord) : Type 0 where
  pub count : length guests ≡ process_count home.basis.trace
  pub each : (i : ℕ) (g : Guest) → slice_get guests i ≡ Some g → GuestRests named home g
  pub placed : (i : ℕ) (g : Guest) → slice_get guests i ≡ Some g → g.cell.pid.0 ≡ i
  pub kernel : KernelRests named home k
  pub heap_count : length shared ≡ home.basis.trace.shared_heaps
  pub each_heap : (i : ℕ) (s : SharedRecord) → slice_get shared i ≡ Some s → SharedRests named home s
  pub heaps_placed : (i : ℕ) (s : SharedRecord) → slice_get shared i ≡ Some s → s.id.0 ≡ i
  pub book : BookRests named home b

-- the host that they make up
abbrev pub host_together : Home → List Guest → HoldingsValue → List SharedRecord → BookRecord → HostValue
host_together home guests k shared b = record { basis = home.basis; guests = guests; kernel = k; shared = shared; book = b }
