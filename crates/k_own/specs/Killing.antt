-- What the end of a process by another asks and leaves.
use Rattle.std.specs.Prelude.{◌≡◌, ◌≤◌, [], ◌∷◌}
use Rattle.k_types.specs.declared.event.Event.{Event}
use Rattle.k_types.specs.declared.event.Event.TheVariants.{Done}
use Rattle.k_types.specs.declared.event.Reply.TheVariants.{Done as DoneReply}
use Rattle.k_types.specs.declared.names.Heap.TheVariants.{Kernel, User}
use Rattle.k_types.specs.declared.names.Pid.{Pid}
use Rattle.k_types.specs.declared.op.Op.{Op}
use Rattle.k_types.specs.declared.op.Op.TheVariants.{Kill}
use Rattle.k_types.specs.Agree.{book_shown_by}
use Rattle.k_types.specs.Trace.{Trace, segment_count}
use Rattle.k_agree.specs.Meeting.{Fits}
use Rattle.k_commit.specs.k_book.Books.{BookRecord}
use Rattle.k_commit.specs.k_cell.Holdings.{HoldingsValue}
use Rattle.k_commit.specs.Beside.{Stands}
use Rattle.k_commit.specs.Standing.{BookStands, HeapStands, KernelStands}
use Rattle.k_commit.specs.Stepped.{HasStepped}
use Rattle.k_laws.specs.PartUpdates.{done_in}
use Rattle.k_commit.specs.k_heap.Heaps.{HeapRecord}
use Rattle.k_commit.specs.k_agree.Moves.{noted}
use Rattle.k_commit.specs.k_agree.Shown.{idle_part}
use Rattle.k_laws.specs.Touches.{other_cells_in}
use Rattle.k_own.specs.Exiting.{EndsProcess, HasRoomToExit}

-- the event of a kill that ends its target
abbrev pub kill_of : Pid → Pid → Event
kill_of pid target = Done pid (Kill target) DoneReply

-- by the process's cell and the book the operation touches the target's cell and the kernel's
abbrev pub ReachesEnd : Trace → HeapRecord → Pid → BookRecord → Op → Type 0
ReachesEnd trace cell target book op = other_cells_in trace (book_shown_by book.value) (idle_part cell.value) cell.pid.0 op ≡ User target ∷ Kernel ∷ []

-- the cells and the book stand, nothing of the target is unpublished and its heap is not collected; the operation is the kill of the
-- target, which it ends; the kernel's cell has a number for each segment of the trace, and there is room once the notes fit the journal
pub record CanKill (trace : Trace) (cell target : HeapRecord) (kernel : HoldingsValue) (book : BookRecord) (op : Op) : Type 0 where
  pub book_stands : BookStands trace book
  pub heap_stands : HeapStands trace cell book
  pub target_stands : Stands trace book (noted (User target.pid) target.note target.value)
  pub kernel_stands : KernelStands trace kernel book
  pub numbers : segment_count trace ≤ kernel.bound
  pub asks : op ≡ Kill target.pid
  pub reaches : ReachesEnd trace cell target.pid book op
  pub room : Fits book.journal cell.note → Fits book.journal target.note → Fits book.journal kernel.note → HasRoomToExit target kernel book

-- the process has done the operation, as by any step; and the target has ended, as by any end of a process, with as many operations done
-- as before
pub record HasKilled (trace : Trace) (old_cell cell old_target target : HeapRecord) (old_kernel kernel : HoldingsValue) (old_book book : BookRecord) (op : Op) (event : Event) : Type 0 where
  pub own : HasStepped trace op old_cell cell old_book book event
  pub answered : event ≡ kill_of old_cell.pid old_target.pid
  pub ends : EndsProcess trace old_cell.pid old_target target old_kernel kernel old_book book
  pub same_done : done_in target.value.process ≡ done_in old_target.value.process
