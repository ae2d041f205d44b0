-- What the pieces of a collection, and the end of a process, ask and leave.
use Rattle.std.specs.Prelude.{◌≡◌, ◌-◌, ◌<◌, ◌≤◌, ◌^◌, None, [], length}
use Rattle.k_types.specs.declared.names.CellPhase.{CellPhase}
use Rattle.k_types.specs.declared.names.CellPhase.TheVariants.{Begun, Marked}
use Rattle.k_types.specs.declared.names.Heap.TheVariants.{Kernel, User}
use Rattle.k_types.specs.declared.op.Op.{Op}
use Rattle.k_types.specs.declared.op.Op.TheVariants.{Collect, Exit, KCollect}
use Rattle.k_types.specs.Trace.{Trace, operations_of, segment_count}
use Rattle.k_types.specs.TraceRules.{KeepsRules}
use Rattle.k_laws.specs.Counts.{stores_in}
use Rattle.k_mark.specs.declared.sweeping.Swept.{Swept}
use Rattle.k_agree.specs.Agreement.{Agrees}
use Rattle.k_agree.specs.Rooms.{exit_room}
use Rattle.k_process.specs.Bodies.{bodies_of}
use Rattle.k_process.specs.k_book.Books.{BookRecord}
use Rattle.k_process.specs.k_cell.Holdings.{HoldingsValue}
use Rattle.k_process.specs.k_heap.Heaps.{HeapRecord, own_segment}
use Rattle.k_shares.specs.Sharers.{lowest_orphan}
use Rattle.k_collect.specs.SweptAlone.{HasSweptAlone, KernelHasSweptAlone}
use Rattle.k_process.specs.Keeping.{BookKeeps, CanGive, KernelKeeps, operations_left}
use Rattle.k_process.specs.declared.process.Process.{Process}
use Rattle.k_process.specs.BetweenSteps.{ComesNext, HasDone}
use Rattle.k_process.specs.Worlds.{WorldValue}
use Rattle.k_operate.specs.Adding.{AddsEnd, AddsOne}
use Rattle.k_operate.specs.Steps.{HasDoneAlone, PairStands}

-- process and book stand with nothing unpublished, and the operation comes next
pub record IsNextAndSettled (world : WorldValue) (p : Process) (b : BookRecord) (op : Op) : Type 0 where
  pub pair : PairStands world p b
  pub settled : p.cell.value.tail ≡ []
  pub next : ComesNext world.trace p.cell op

-- the process stands as between its operations, with nothing unpublished and room in the tables of its heap, but the heap's collection is in this phase;
-- and it has seen so few events that the objects of its heap can be counted
pub record Collects (world : WorldValue) (phase : CellPhase) (p : Process) : Type 0 where
  pub rules : KeepsRules world.trace
  pub agrees : Agrees world.trace (User p.cell.pid) p.cell.note p.cell.value
  pub table : p.cell.note.table ≡ world.table
  pub settled : p.cell.value.tail ≡ []
  pub in_phase : p.cell.value.collection ≡ phase
  pub short : length p.cell.note.list < 2 ^ 32 - 1
  pub bodies : p.cell.bodies ≡ bodies_of world.trace.types (operations_left world.trace p.cell)
  pub exits : stores_in (operations_of world.trace p.cell.pid.0) ≤ p.cell.exit_room
  pub serials : CanGive world.trace p.cell.serial_rooms (own_segment p.cell.pid)
  pub tail : length (operations_of world.trace p.cell.pid.0) ≤ p.cell.tail_room
  pub operations : p.ops.items ≡ operations_of world.trace p.cell.pid.0

-- the process is the same one, and has the same operations left
pub record HasSameLeft (trace : Trace) (old new : HeapRecord) : Type 0 where
  pub pid : new.pid ≡ old.pid
  pub left : operations_left trace new ≡ operations_left trace old

-- the process has done `collect`, which is in the journal, its heap's collection has begun, and the book stands still
pub record HasBegunCollection (world : WorldValue) (old new : Process) (old_b b : BookRecord) : Type 0 where
  pub process : Collects world Begun new
  pub book : BookKeeps world.trace world.table b
  pub done : HasDone world.trace Collect old.cell new.cell
  pub events : AddsOne old.cell.pid Collect old_b.journal.list b.journal.list

-- the process's heap is marked, and nothing else has changed
pub record HasMarkedCollection (world : WorldValue) (old new : Process) : Type 0 where
  pub process : Collects world Marked new
  pub same : HasSameLeft world.trace old.cell new.cell

-- the process's heap was marked and then swept, and the numbers are those of the objects that went
pub record CollectsSwept (world : WorldValue) (p : Process) (freed : Swept) : Type 0 where
  pub before : HeapRecord
  pub process : Collects world Marked (record p { cell = before })
  pub swept : HasSweptAlone before p.cell freed

-- the process's heap is swept, and nothing else has changed
pub record HasSweptCollection (world : WorldValue) (old new : Process) (freed : Swept) : Type 0 where
  pub process : CollectsSwept world new freed
  pub same : HasSameLeft world.trace old.cell new.cell

-- the process's heap is swept, and the book stands
pub record CanEndCollection (world : WorldValue) (p : Process) (b : BookRecord) (freed : Swept) : Type 0 where
  pub process : CollectsSwept world p freed
  pub book : BookKeeps world.trace world.table b

-- the end of the heap's collection is in the journal; process and book stand, with nothing unpublished, and the process has done nothing since
pub record HasEndedCollection (world : WorldValue) (old new : Process) (old_b b : BookRecord) : Type 0 where
  pub pair : PairStands world new b
  pub settled : new.cell.value.tail ≡ []
  pub same : HasSameLeft world.trace old.cell new.cell
  pub events : AddsEnd (User old.cell.pid) old_b.journal.list b.journal.list

-- the kernel stands as between operations, but its heap's collection is in this phase; and it has seen so few events that the objects of its
-- heap can be counted
pub record KernelCollects (world : WorldValue) (phase : CellPhase) (k : HoldingsValue) : Type 0 where
  pub rules : KeepsRules world.trace
  pub agrees : Agrees world.trace Kernel k.note k.value
  pub table : k.note.table ≡ world.table
  pub in_phase : k.value.collection ≡ phase
  pub short : length k.note.list < 2 ^ 32 - 1
  pub exits : exit_room world.trace ≤ k.exit_room
  pub serials : CanGive world.trace k.serial_rooms 0
  pub numbers : segment_count world.trace ≤ k.bound

-- `kcollect` comes next, the kernel stands, and no shared heap is an orphan
pub record CanBeginKernelCollection (world : WorldValue) (p : Process) (k : HoldingsValue) (b : BookRecord) : Type 0 where
  pub own : IsNextAndSettled world p b KCollect
  pub kernel : KernelKeeps world.trace world.table k
  pub orphans : lowest_orphan b.value.phases b.value.shares ≡ None

-- the process has done `kcollect`, which is in the journal, process and book stand still with nothing unpublished, and the collection of
-- the kernel's heap has begun
pub record HasBegunKernelCollection (world : WorldValue) (old new : Process) (k : HoldingsValue) (old_b b : BookRecord) : Type 0 where
  pub own : HasDoneAlone world KCollect old new b
  pub kernel : KernelCollects world Begun k
  pub events : AddsOne old.cell.pid KCollect old_b.journal.list b.journal.list

-- the kernel's heap was marked and then swept, and the numbers are those of the objects that went
pub record KernelCollectsSwept (world : WorldValue) (k : HoldingsValue) (freed : Swept) : Type 0 where
  pub before : HoldingsValue
  pub kernel : KernelCollects world Marked before
  pub swept : KernelHasSweptAlone before k freed

-- the kernel's heap is swept, and the book stands
pub record CanEndKernelCollection (world : WorldValue) (k : HoldingsValue) (b : BookRecord) (freed : Swept) : Type 0 where
  pub kernel : KernelCollectsSwept world k freed
  pub book : BookKeeps world.trace world.table b

-- the end of the collection of the kernel's heap is in the journal, and kernel and book stand
pub record HasEndedKernelCollection (world : WorldValue) (k : HoldingsValue) (old_b b : BookRecord) : Type 0 where
  pub kernel : KernelKeeps world.trace world.table k
  pub book : BookKeeps world.trace world.table b
  pub events : AddsEnd Kernel old_b.journal.list b.journal.list

-- `exit` comes next, and the kernel stands
pub record CanExitNow (world : WorldValue) (p : Process) (k : HoldingsValue) (b : BookRecord) : Type 0 where
  pub own : IsNextAndSettled world p b Exit
  pub kernel : KernelKeeps world.trace world.table k
