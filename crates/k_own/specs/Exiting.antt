-- What the end of a process asks and leaves.
use Rattle.std.specs.Prelude.{◌≡◌, ◌+◌, ◌≤◌, ◌↔◌, [], ◌∷◌, ◌++◌, IsTrue, None, length, slice_index_or, slice_set}
use Rattle.k_types.specs.declared.event.Event.{Event}
use Rattle.k_types.specs.declared.event.Event.TheVariants.{Done}
use Rattle.k_types.specs.declared.event.Reply.TheVariants.{Done as DoneReply}
use Rattle.k_types.specs.declared.names.CellPhase.TheVariants.{Idle}
use Rattle.k_types.specs.declared.names.Heap.{Heap}
use Rattle.k_types.specs.declared.names.Heap.TheVariants.{Kernel, User}
use Rattle.k_types.specs.declared.names.Name.{Name}
use Rattle.k_types.specs.declared.names.Pid.{Pid}
use Rattle.k_types.specs.declared.op.Op.TheVariants.{Exit}
use Rattle.k_types.specs.Effects.{after_end_of}
use Rattle.k_types.specs.State.{State, has_exit}
use Rattle.k_types.specs.Steps.{IsPossible, state_after}
use Rattle.k_types.specs.Trace.{Trace, segment_count}
use Rattle.k_types.specs.Updates.{count_done}
use Rattle.k_laws.specs.Termination.{CreditsTheCharge, LeavesTheRest, StaysOrPasses}
use Rattle.k_agree.specs.Agreement.{Agrees, BookAgrees, BookShows, Shows}
use Rattle.k_agree.specs.Meeting.{Fits, HasMet}
use Rattle.k_commit.specs.k_book.Books.{BookRecord}
use Rattle.k_commit.specs.k_cell.Holdings.{HoldingsValue}
use Rattle.k_commit.specs.Met.{HaveMetWith}
use Rattle.k_commit.specs.Others.{of_kernel}
use Rattle.k_commit.specs.Rooms.{HasEventRoom}
use Rattle.k_commit.specs.Standing.{BookStands, HeapStands, KernelStands}
use Rattle.k_laws.specs.PartUpdates.{done_in}
use Rattle.k_commit.specs.k_heap.Heaps.{HeapRecord, has_ended_in, own_segment}
use Rattle.k_laws.specs.Lawful.{IsLawful}

-- the journal has room for one event more, and the kernel for the exit items of the process's heap beside its own
pub record HasRoomToExit (cell : HeapRecord) (kernel : HoldingsValue) (book : BookRecord) : Type 0 where
  pub events : HasEventRoom book
  pub exits : length cell.value.exits + length kernel.value.exits ≤ kernel.exit_room

-- the process's cell, the kernel's and the book stand; the kernel's cell has a number for each segment of the trace; and once the
-- notes fit the journal there is room
pub record CanExit (trace : Trace) (cell : HeapRecord) (kernel : HoldingsValue) (book : BookRecord) : Type 0 where
  pub book_stands : BookStands trace book
  pub heap_stands : HeapStands trace cell book
  pub kernel_stands : KernelStands trace kernel book
  pub numbers : segment_count trace ≤ kernel.bound
  pub room : Fits book.journal cell.note → Fits book.journal kernel.note → HasRoomToExit cell kernel book

-- the same once both cells have met the journal
pub record HaveMetToExit (trace : Trace) (cell : HeapRecord) (kernel : HoldingsValue) (book : BookRecord) : Type 0 where
  pub have_met : HaveMetWith (record { own = record { trace = trace; cell = cell; book = book }; other = of_kernel kernel })
  pub numbers : segment_count trace ≤ kernel.bound
  pub room : HasRoomToExit cell kernel book

-- the event of an exit
abbrev pub exit_of : Pid → Event
exit_of pid = Done pid Exit DoneReply

-- the state once the process has ended, before the operation that ended it counts as done
abbrev pub ended_state : Trace → BookRecord → Pid → State
ended_state trace book pid = after_end_of trace pid.0 (state_after trace book.journal.list)

-- the process has ended, as both cells and the book show; the operation that ended it does not count as done yet, and is not appended
pub record HasGivenUp (trace : Trace) (old_cell cell : HeapRecord) (old_kernel kernel : HoldingsValue) (old_book book : BookRecord) : Type 0 where
  pub cell_is : cell ≡ record old_cell { value = cell.value; serial_rooms = slice_set old_cell.serial_rooms (own_segment old_cell.pid) None }
  pub kernel_is : kernel ≡ record old_kernel {
    value = kernel.value;
    serial_rooms = slice_set old_kernel.serial_rooms (own_segment old_cell.pid) (slice_index_or old_cell.serial_rooms (own_segment old_cell.pid) None);
  }
  pub book_is : book ≡ record old_book { value = book.value }
  pub settled : cell.value.tail ≡ []
  pub kernel_settled : kernel.value.tail ≡ []
  pub idle : cell.value.collection ≡ Idle
  pub kernel_idle : kernel.value.collection ≡ Idle
  pub ended : IsTrue (has_ended_in cell.value.process)
  pub done : done_in cell.value.process ≡ done_in old_cell.value.process
  pub shows : Shows trace (ended_state trace old_book old_cell.pid) (User old_cell.pid) cell.value
  pub kernel_shows : Shows trace (ended_state trace old_book old_cell.pid) Kernel kernel.value
  pub book_shows : BookShows trace (ended_state trace old_book old_cell.pid) book.value

-- what the end of a process leaves once its event is appended, whichever process asked for it. The notes fitted the journal. The process
-- has ended and its segment is the kernel's: the cells are the same ones, where the room for serials has gone with the segment. Both are
-- idle with nothing unpublished, have met the journal, and agree. The whole charge is credited: the use of each limit on the path of the
-- process's limit falls by what the process was charged, and every other limit's use stays. The operation counts for the process that
-- asked. No object goes or changes, and all that is of other processes stays, as do the exit items but for those of the heap and the
-- kernel's into it
pub record EndsProcess (trace : Trace) (by : Pid) (old_cell cell : HeapRecord) (old_kernel kernel : HoldingsValue) (old_book book : BookRecord) : Type 0 where
  pub fits : Fits old_book.journal old_cell.note
  pub kernel_fits : Fits old_book.journal old_kernel.note
  pub table : cell.note.table ≡ book.journal.table
  pub kernel_table : kernel.note.table ≡ book.journal.table
  pub cell_is : cell ≡ record old_cell { note = cell.note; value = cell.value; serial_rooms = slice_set old_cell.serial_rooms (own_segment old_cell.pid) None }
  pub kernel_is : kernel ≡ record old_kernel {
    note = kernel.note;
    value = kernel.value;
    serial_rooms = slice_set old_kernel.serial_rooms (own_segment old_cell.pid) (slice_index_or old_cell.serial_rooms (own_segment old_cell.pid) None);
  }
  pub settled : cell.value.tail ≡ []
  pub idle : cell.value.collection ≡ Idle
  pub kernel_idle : kernel.value.collection ≡ Idle
  pub ended : IsTrue (has_ended_in cell.value.process)
  pub met : HasMet trace book.journal (User cell.pid) cell.note
  pub kernel_met : HasMet trace book.journal Kernel kernel.note
  pub agrees : Agrees trace (User cell.pid) cell.note cell.value
  pub kernel_agrees : Agrees trace Kernel kernel.note kernel.value
  pub credits : CreditsTheCharge trace (state_after trace old_book.journal.list) old_cell.pid.0 (state_after trace book.journal.list)
  pub counts : state_after trace book.journal.list ≡ count_done by.0 (ended_state trace old_book old_cell.pid)
  pub leaves : LeavesTheRest (state_after trace old_book.journal.list) old_cell.pid.0 (ended_state trace old_book old_cell.pid)
  pub exits : (h : Heap) (n : Name) →
      (IsTrue (has_exit (ended_state trace old_book old_cell.pid).exits h n) ↔ StaysOrPasses trace (state_after trace old_book.journal.list) old_cell.pid.0 h n)

-- the event is the exit, answered as done, possible after the journal, lawful, and its newest. The process has done one operation more and
-- has ended, and the book agrees
pub record HasExited (trace : Trace) (old_cell cell : HeapRecord) (old_kernel kernel : HoldingsValue) (old_book book : BookRecord) (event : Event) : Type 0 where
  pub event_is : event ≡ exit_of old_cell.pid
  pub possible : IsPossible trace (state_after trace old_book.journal.list) event
  pub lawful : IsLawful trace old_book.journal.list event
  pub journal : book.journal.list ≡ old_book.journal.list ++ event ∷ []
  pub same_table : book.journal.table ≡ old_book.journal.table
  pub book_is : book ≡ record old_book { journal = book.journal; value = book.value }
  pub done : done_in cell.value.process ≡ done_in old_cell.value.process + 1
  pub book_agrees : BookAgrees trace book.journal book.value
  pub ends : EndsProcess trace old_cell.pid old_cell cell old_kernel kernel old_book book
