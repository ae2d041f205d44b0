-- Processes, kernel, shared heaps and book of a host, as they stand between its calls.
use Rattle.std.specs.Prelude.{◌≡◌, ℕ, ◌<◌, ◌≤◌, ◌^◌, IsFalse, List, Option, Some, None, [], length, replicate, slice_get, slice_index_or}
use Rattle.atomic_table.specs.Seated.{TableId}
use Rattle.k_types.specs.declared.names.CellPhase.TheVariants.{Idle}
use Rattle.k_types.specs.declared.names.Heap.TheVariants.{Kernel, Shared, User}
use Rattle.k_types.specs.declared.names.TypeId.{TypeId}
use Rattle.k_types.specs.declared.setup.Setup.{Setup}
use Rattle.k_types.specs.State.{State}
use Rattle.k_types.specs.Steps.{state_after}
use Rattle.k_types.specs.Trace.{Trace, process_count, segment_count, segment_of, trace_of}
use Rattle.k_types.specs.TraceRules.{KeepsRules}
use Rattle.k_agree.specs.Agreement.{Agrees}
use Rattle.k_book.specs.Books.{BookRecord}
use Rattle.k_book.specs.Objects.{objects_after}
use Rattle.k_cell.specs.Holdings.{HoldingsValue}
use Rattle.k_heap.specs.Heaps.{has_ended_in, own_segment}
use Rattle.k_shared.specs.SharedHeaps.{SharedRecord}
use Rattle.k_space.specs.Objects.{BodyValue, new_body}
use Rattle.k_trace.specs.Named.{DeclaredNames}
use Rattle.k_process.specs.Standing.{BookStands}
use Rattle.k_process.specs.Keeping.{is_absorbed_in}
use Rattle.k_guests.specs.declared.guest.Guest.{Guest}
use Rattle.k_guests.specs.declared.rooms.Rooms.{Rooms}
use Rattle.k_guests.specs.declared.terms.Terms.{Terms}
use Rattle.k_guests.specs.Reserve.{kept_for}

-- the trace of the setup in which no process has an operation: what is done is made up as it goes
abbrev pub open_trace : Setup → Trace
open_trace setup = trace_of setup (replicate (length setup.procs.items) []) []

-- what all parts of a host have in common: the trace with which they agree, the names of what it declares, the type of the objects for
-- which there is a supply of bodies, and for how much there is room
pub record Basis : Type 0 where
  pub trace : Trace
  pub names : DeclaredNames
  pub ty : TypeId
  pub rooms : Rooms

-- the basis of a host that is made for these terms
abbrev pub basis_of : Terms → Basis
basis_of terms = record { trace = open_trace terms.setup; names = terms.names; ty = terms.ty; rooms = terms.rooms }

-- by these rooms the segment is there, and so many of its objects can live at once
abbrev pub HasSegment : ℕ → List (Option ℕ) → ℕ → Type 0
HasSegment objects rooms seg = slice_index_or rooms seg None ≡ Some objects

-- the exit items of the kernel's heap and those that are kept back for the processes that live, as many for each as it can have,
-- are no more than the kernel's heap can have
abbrev pub HasReserveAt : Basis → State → Type 0
HasReserveAt basis st = kept_for basis.trace basis.rooms.exits st ≤ basis.rooms.kernel_exits

-- the cell of a process agrees with the trace, which keeps the rules, and is of the journal's table; it has these bodies, and its
-- tables have the room that the basis says, with the segment of a process that lives
pub record GuestServesWith (basis : Basis) (tie : TableId) (bodies : List BodyValue) (g : Guest) : Type 0 where
  pub rules : KeepsRules basis.trace
  pub agrees : Agrees basis.trace (User g.cell.pid) g.cell.note g.cell.value
  pub table : g.cell.note.table ≡ tie
  pub stock : g.cell.bodies ≡ bodies
  pub exits : g.cell.exit_room ≡ basis.rooms.exits
  pub serials : IsFalse (has_ended_in g.cell.value.process) → HasSegment basis.rooms.objects g.cell.serial_rooms (own_segment g.cell.pid)
  pub tail : basis.rooms.tail ≤ g.cell.tail_room

-- the bodies of a supply: so many new ones, of the type that the terms name
abbrev pub supply_of : Basis → ℕ → List BodyValue
supply_of basis bodies = replicate bodies (new_body basis.trace.types basis.ty)

-- a process serves, and has as many bodies of its supply as are counted
abbrev pub GuestServes : Basis → TableId → Guest → Type 0
GuestServes basis tie g = GuestServesWith basis tie (supply_of basis g.bodies) g

-- one event more of the process can be unpublished
abbrev pub HasTailRoom : Basis → Guest → Type 0
HasTailRoom basis g = length g.cell.value.tail < basis.rooms.tail

-- the kernel's cell agrees with the trace, which keeps the rules, and is of the journal's table; it has its segment, room for the
-- exit items that the basis says, and a number for each segment
pub record KernelServes (basis : Basis) (tie : TableId) (k : HoldingsValue) : Type 0 where
  pub rules : KeepsRules basis.trace
  pub agrees : Agrees basis.trace Kernel k.note k.value
  pub table : k.note.table ≡ tie
  pub exits : k.exit_room ≡ basis.rooms.kernel_exits
  pub serials : HasSegment basis.rooms.objects k.serial_rooms 0
  pub numbers : segment_count basis.trace ≤ k.bound

-- the cell of a shared heap agrees, is of the journal's table and begins with the heap's own segment, which it has until it is absorbed,
-- and it has room for the exit items that the basis says
pub record SharedServes (basis : Basis) (tie : TableId) (s : SharedRecord) : Type 0 where
  pub agrees : Agrees basis.trace (Shared s.id) s.note s.value
  pub table : s.note.table ≡ tie
  pub segment : s.seg.0 ≡ segment_of basis.trace (Shared s.id)
  pub idle : s.value.collection ≡ Idle
  pub exits : s.exit_room ≡ basis.rooms.exits
  pub serials : IsFalse (is_absorbed_in s.value.phase) → HasSegment basis.rooms.objects s.serial_rooms s.seg.0

-- 32 bits count the objects of the machine after the journal
abbrev pub HasFewObjectsIn : Basis → BookRecord → Type 0
HasFewObjectsIn basis b = objects_after basis.trace b.journal.list < 2 ^ 32

-- the book stands, with the room that the basis says for events, for the last of them that can be read and for entry items; 32 bits count
-- the objects of the machine, and the kernel's heap has room for the exit items that come to it when the processes end
pub record BookServes (basis : Basis) (b : BookRecord) : Type 0 where
  pub stands : BookStands basis.trace b
  pub events : b.event_room ≡ basis.rooms.events
  pub few : HasFewObjectsIn basis b
  pub kept : b.kept ≡ basis.rooms.kept
  pub entries : b.entry_room ≡ basis.rooms.entries
  pub reserve : HasReserveAt basis (state_after basis.trace b.journal.list)

-- process and book serve still, with the same table, and the process is the same one with as many bodies
pub record KeepsPair (basis : Basis) (old g : Guest) (old_b b : BookRecord) : Type 0 where
  pub guest : GuestServes basis b.journal.table g
  pub book : BookServes basis b
  pub same_table : b.journal.table ≡ old_b.journal.table
  pub pid : g.cell.pid ≡ old.cell.pid
  pub bodies : g.bodies ≡ old.bodies

-- there is a guest for each process, in the place of its number
pub record GuestsServe (basis : Basis) (tie : TableId) (guests : List Guest) : Type 0 where
  pub count : length guests ≡ process_count basis.trace
  pub each : (k : ℕ) (g : Guest) → slice_get guests k ≡ Some g → GuestServes basis tie g
  pub placed : (k : ℕ) (g : Guest) → slice_get guests k ≡ Some g → g.cell.pid.0 ≡ k

-- there is a cell for each shared heap, in the place of its number
pub record HeapsServe (basis : Basis) (tie : TableId) (shared : List SharedRecord) : Type 0 where
  pub count : length shared ≡ basis.trace.shared_heaps
  pub each : (k : ℕ) (s : SharedRecord) → slice_get shared k ≡ Some s → SharedServes basis tie s
  pub placed : (k : ℕ) (s : SharedRecord) → slice_get shared k ≡ Some s → s.id.0 ≡ k

-- the kernel, all shared heaps and the book serve
pub record RestServes (basis : Basis) (k : HoldingsValue) (shared : List SharedRecord) (b : BookRecord) : Type 0 where
  pub kernel : KernelServes basis b.journal.table k
  pub heaps : HeapsServe basis b.journal.table shared
  pub book : BookServes basis b
