-- Room in the tables of a heap and of the book for what an operation adds to the heap: an object, or an exit item.
use Rattle.std.specs.Prelude.{ℕ, ◌+◌, ◌-◌, ◌*◌, ◌<◌, ◌^◌, IsFalse, length, if◌then◌else◌}
use Rattle.k_types.specs.declared.op.Op.{Op}
use Rattle.k_types.specs.declared.op.Op.TheVariants.{New, KNew, SNew, Store}
use Rattle.k_book.specs.Books.{BookRecord}
use Rattle.k_book.specs.Objects.{objects_told}
use Rattle.k_laws.specs.Counts.{is_allocation}
use Rattle.k_cell.specs.Holdings.{HasObjectRoom, HoldingsValue}
use Rattle.k_heap.specs.Heaps.{holdings_of as heap_holdings, own_segment}
use Rattle.k_shared.specs.SharedHeaps.{SharedRecord, holdings_of as shared_holdings}
use Rattle.k_shares.specs.Sharers.{living_of}
use Rattle.k_guests.specs.declared.guest.Guest.{Guest}
use Rattle.k_guests.specs.Keeping.{is_absorbed_in}
use Rattle.k_guests.specs.Serving.{Basis}
use Rattle.k_calls.specs.declared.errors.HostError.{HostError}
use Rattle.k_calls.specs.declared.errors.HostError.TheVariants.{Objects, Items}

-- there can be one entry item more
abbrev pub HasEntryRoom : Basis → BookRecord → Type 0
HasEntryRoom basis b = length b.value.entries < basis.rooms.entries

-- of so many exit items a heap of a process, or a shared one, can have one more, with its entry item
pub record HasItemLeft (basis : Basis) (count : ℕ) (b : BookRecord) : Type 0 where
  pub exits : count < basis.rooms.exits
  pub entries : HasEntryRoom basis b

-- the kernel's heap has an exit item left, with its entry item, beside those that are kept back for the processes that live
pub record HasKernelItemLeft (basis : Basis) (k : HoldingsValue) (b : BookRecord) : Type 0 where
  pub exits : length k.value.exits + basis.rooms.exits * living_of b.value.ended (length b.procs) < basis.rooms.kernel_exits
  pub entries : HasEntryRoom basis b

-- 32 bits count one object more beside those that there are by the events of the journal
abbrev pub HasCountLeft : BookRecord → Type 0
HasCountLeft b = objects_told b.journal.list < 2 ^ 32 - 1

-- the segment of the heap has room for one object more, and it can be counted
pub record HasObjectLeft (heap : HoldingsValue) (seg : ℕ) (b : BookRecord) : Type 0 where
  pub room : HasObjectRoom heap seg
  pub counted : HasCountLeft b

-- the same of a shared heap, where it is not absorbed
pub record HasSharedObjectLeft (s : SharedRecord) (b : BookRecord) : Type 0 where
  pub room : IsFalse (is_absorbed_in s.value.phase) → HasObjectRoom (shared_holdings s) s.seg.0
  pub counted : HasCountLeft b

-- the process's heap has room for what an operation adds that touches its cell alone
abbrev pub HasOwnRoom : Basis → Guest → BookRecord → Op → Type 0
HasOwnRoom basis g b (New r ty) = HasObjectLeft (heap_holdings g.cell) (own_segment g.cell.pid) b
HasOwnRoom basis g b (Store base i value) = HasItemLeft basis (length g.cell.value.exits) b
HasOwnRoom basis g b _ = Unit {0}

-- the kernel's heap has room for what an operation adds that touches its cell
abbrev pub HasKernelRoom : Basis → HoldingsValue → BookRecord → Op → Type 0
HasKernelRoom basis k b (KNew r ty) = HasObjectLeft k 0 b
HasKernelRoom basis k b (Store base i value) = HasKernelItemLeft basis k b
HasKernelRoom basis k b _ = Unit {0}

-- the shared heap has room for what an operation adds that touches its cell. One that is absorbed gets no object
abbrev pub HasSharedRoom : Basis → SharedRecord → BookRecord → Op → Type 0
HasSharedRoom basis s b (SNew r id ty) = HasSharedObjectLeft s b
HasSharedRoom basis s b (Store base i value) = HasItemLeft basis (length s.value.exits) b
HasSharedRoom basis s b _ = Unit {0}

-- what a heap lacks that has no room for what the operation adds: objects for an allocation, and else items
abbrev pub lacking : Op → HostError
lacking op = if is_allocation op then Objects else Items
