-- Runs that are over, and what they leave.
use Rattle.std.specs.Prelude.{◌≡◌, ℕ, ◌<◌, ◌≤◌, IsTrue, List, Some, map, slice_get}
use Rattle.k_types.specs.declared.names.Heap.TheVariants.{Kernel, Shared, User}
use Rattle.k_types.specs.Complete.{EndsWithClosing, IsComplete}
use Rattle.k_types.specs.Sound.{IsSound}
use Rattle.k_types.specs.Steps.{IsLegalHistory, state_after}
use Rattle.k_types.specs.Trace.{Trace, process_count}
use Rattle.k_agree.specs.Agreement.{BookShows, Shows}
use Rattle.k_agree.specs.Rooms.{AreFirst, event_room}
use Rattle.k_agree.specs.Settled.{all_ended_in, no_orphan_in}
use Rattle.k_commit.specs.k_book.Books.{BookRecord}
use Rattle.k_commit.specs.k_heap.Holdings.{HoldingsValue}
use Rattle.k_commit.specs.Standing.{BookStands}
use Rattle.k_commit.specs.k_heap.Heaps.{HeapRecord}
use Rattle.k_commit.specs.SharedHeaps.{SharedRecord}
use Rattle.k_process.specs.Keeping.{KernelKeeps}
use Rattle.k_process.specs.declared.process.Process.{Process}
use Rattle.k_process.specs.Heaps.{HeapsValue}
use Rattle.k_process.specs.BetweenSteps.{HeapsStand, IsThroughWith, ProcessesStand}
use Rattle.k_process.specs.Worlds.{WorldValue}

-- the book stands and is of the table, its journal has of each process the first operations of the trace, and all events of a run of it
-- can be read
pub record BookEnds (world : WorldValue) (b : BookRecord) : Type 0 where
  pub stands : BookStands world.trace b
  pub table : b.journal.table ≡ world.table
  pub first : AreFirst world.trace b.journal.list
  pub kept : event_room world.trace ≤ b.kept

-- all processes stand and are through, and the book stands
pub record ProcessesThrough (world : WorldValue) (ps : List Process) (b : BookRecord) : Type 0 where
  pub processes : ProcessesStand world ps
  pub through : (k : ℕ) (p : Process) → slice_get ps k ≡ Some p → IsThroughWith world.trace p.cell
  pub book : BookEnds world b

-- all processes are through and all cells stand; and where every process has ended, no shared heap is an orphan and the journal ends with
-- the closing
pub record AllEnded (world : WorldValue) (heaps : HeapsValue) : Type 0 where
  pub processes : ProcessesThrough world heaps.processes heaps.book
  pub kernel : KernelKeeps world.trace world.table heaps.kernel
  pub shared : HeapsStand world heaps.shared
  pub orphans : IsTrue (all_ended_in world.trace heaps.book.value) → IsTrue (no_orphan_in world.trace heaps.book.value)
  pub closed : IsTrue (all_ended_in world.trace heaps.book.value) → EndsWithClosing heaps.book.journal.list

-- and each cell knows the whole journal
pub record AllMet (world : WorldValue) (heaps : HeapsValue) : Type 0 where
  pub ended : AllEnded world heaps
  pub processes_met : (k : ℕ) (p : Process) → slice_get heaps.processes k ≡ Some p → p.cell.note.list ≡ heaps.book.journal.list
  pub kernel_met : heaps.kernel.note.list ≡ heaps.book.journal.list
  pub shared_met : (k : ℕ) (s : SharedRecord) → slice_get heaps.shared k ≡ Some s → s.note.list ≡ heaps.book.journal.list

-- the cells of a run that is over
pub record OutcomeValue : Type 0 where
  pub processes : List HeapRecord
  pub kernel : HoldingsValue
  pub shared : List SharedRecord
  pub book : BookRecord

-- what all heaps leave: of each process its cell
abbrev pub cells_of : HeapsValue → OutcomeValue
cells_of heaps = record { processes = map (λ (p : Process). p.cell) heaps.processes; kernel = heaps.kernel; shared = heaps.shared; book = heaps.book }

-- the journal is a legal and complete history of the trace, the state after it is sound, and each cell and the book show that state
pub record IsOutcome (trace : Trace) (o : OutcomeValue) : Type 0 where
  pub legal : IsLegalHistory trace o.book.journal.list
  pub complete : IsComplete trace o.book.journal.list
  pub sound : IsSound trace (state_after trace o.book.journal.list)
  pub processes : (p : ℕ) → p < process_count trace → (c : HeapRecord) × (slice_get o.processes p ≡ Some c) × (c.pid.0 ≡ p) × Shows trace (state_after trace o.book.journal.list) (User c.pid) c.value
  pub kernel : Shows trace (state_after trace o.book.journal.list) Kernel o.kernel.value
  pub shared : (s : ℕ) → s < trace.shared_heaps → (c : SharedRecord) × (slice_get o.shared s ≡ Some c) × (c.id.0 ≡ s) × Shows trace (state_after trace o.book.journal.list) (Shared c.id) c.value
  pub book : BookShows trace (state_after trace o.book.journal.list) o.book.value
