-- What the values behind the locks keep.
use Rattle.std.specs.Prelude.{◌≡◌, ℕ, ◌≤◌, IsFalse, List, Option, Some, None, drop, length, slice_index_or, Bool, false, ◌++◌}
use Rattle.atomic_table.specs.Seated.{TableId}
use Rattle.k_types.specs.declared.names.CellPhase.TheVariants.{Idle}
use Rattle.k_types.specs.declared.names.Heap.TheVariants.{Kernel, Shared, User}
use Rattle.k_types.specs.declared.names.Phase.{Phase}
use Rattle.k_types.specs.declared.op.Op.{Op}
use Rattle.k_types.specs.Following.{FollowsOwn, FollowsTrace}
use Rattle.k_types.specs.Owners.{is_absorbed}
use Rattle.k_types.specs.Trace.{Trace, operations_of, segment_count, segment_of}
use Rattle.k_types.specs.TraceRules.{KeepsRules}
use Rattle.k_laws.specs.PartUpdates.{done_in}
use Rattle.k_laws.specs.Counts.{stores_in}
use Rattle.k_commit.specs.k_agree.Agreement.{Agrees}
use Rattle.k_commit.specs.k_agree.Rooms.{event_room, exit_room, serial_room}
use Rattle.k_process.specs.Bodies.{bodies_of}
use Rattle.k_commit.specs.Books.{BookRecord}
use Rattle.k_commit.specs.Holdings.{HoldingsValue}
use Rattle.k_commit.specs.Heaps.{HeapRecord, has_ended_in, own_segment}
use Rattle.k_commit.specs.SharedHeaps.{SharedRecord}
use Rattle.k_commit.specs.Standing.{BookStands}
use Rattle.k_process.specs.Rooms.{shared_exit_room}

-- the operations that the process of the cell has not done
abbrev pub operations_left : Trace → HeapRecord → List Op
operations_left trace c = drop (done_in c.value.process) (operations_of trace c.pid.0)

-- by these rooms the segment is there, and has room for an object of each allocation of the trace
pub record CanGive (trace : Trace) (rooms : List (Option ℕ)) (seg : ℕ) : Type 0 where
  pub room : ℕ
  pub there : slice_index_or rooms seg None ≡ Some room
  pub enough : serial_room trace seg ≤ room

-- the tables of a process's cell have room for all that the trace may add to them
pub record HasHeapRooms (trace : Trace) (c : HeapRecord) : Type 0 where
  pub exits : stores_in (operations_of trace c.pid.0) ≤ c.exit_room
  pub serials : IsFalse (has_ended_in c.value.process) → CanGive trace c.serial_rooms (own_segment c.pid)
  pub tail : length (operations_of trace c.pid.0) ≤ c.tail_room

-- the trace keeps its rules, the cell of a process agrees with it, is of the journal's table, and is not collected; its process has done the trace's operations up
-- to its count, it has the bodies of the others' allocations, and its tables have room
pub record HeapKeeps (trace : Trace) (tie : TableId) (c : HeapRecord) : Type 0 where
  pub rules : KeepsRules trace
  pub agrees : Agrees trace (User c.pid) c.note c.value
  pub table : c.note.table ≡ tie
  pub idle : c.value.collection ≡ Idle
  pub follows : FollowsOwn trace c.pid.0 (c.note.list ++ c.value.tail)
  pub bodies : c.bodies ≡ bodies_of trace.types (operations_left trace c)
  pub rooms : HasHeapRooms trace c

-- the trace keeps its rules, the kernel's cell agrees with it, is of the journal's table, and is not collected, its tables have room,
-- and it has a number for each segment
pub record KernelKeeps (trace : Trace) (tie : TableId) (k : HoldingsValue) : Type 0 where
  pub rules : KeepsRules trace
  pub agrees : Agrees trace Kernel k.note k.value
  pub table : k.note.table ≡ tie
  pub idle : k.value.collection ≡ Idle
  pub exits : exit_room trace ≤ k.exit_room
  pub serials : CanGive trace k.serial_rooms 0
  pub numbers : segment_count trace ≤ k.bound

-- the cell's shared heap is absorbed
abbrev pub is_absorbed_in : Option Phase → Bool
is_absorbed_in None = false
is_absorbed_in (Some phase) = is_absorbed phase

-- the trace keeps its rules, the cell of a shared heap agrees with it, is of the journal's table, and is not collected; it begins with the heap's own segment, and its
-- tables have room
pub record SharedKeeps (trace : Trace) (tie : TableId) (s : SharedRecord) : Type 0 where
  pub rules : KeepsRules trace
  pub agrees : Agrees trace (Shared s.id) s.note s.value
  pub table : s.note.table ≡ tie
  pub segment : s.seg.0 ≡ segment_of trace (Shared s.id)
  pub idle : s.value.collection ≡ Idle
  pub exits : shared_exit_room trace s.id.0 ≤ s.exit_room
  pub serials : IsFalse (is_absorbed_in s.value.phase) → CanGive trace s.serial_rooms s.seg.0

-- the book stands and its journal is of the table; the journal has of each process the first operations of the trace, and no closing; its
-- tables have room, and all events of a run of the trace can be read
pub record BookKeeps (trace : Trace) (tie : TableId) (b : BookRecord) : Type 0 where
  pub stands : BookStands trace b
  pub table : b.journal.table ≡ tie
  pub follows : FollowsTrace trace b.journal.list
  pub events : event_room trace ≤ b.event_room
  pub kept : event_room trace ≤ b.kept
  pub entries : exit_room trace ≤ b.entry_room
