-- What the end of a collection leaves.
use Rattle.std.specs.Prelude.{◌≡◌, ℕ}
use Rattle.k_types.specs.declared.event.Event.{Event}
use Rattle.k_types.specs.declared.event.Event.TheVariants.{Ended}
use Rattle.k_types.specs.declared.names.CellPhase.TheVariants.{Idle}
use Rattle.k_types.specs.declared.names.Heap.{Heap}
use Rattle.k_types.specs.declared.names.Heap.TheVariants.{Kernel, User}
use Rattle.k_types.specs.declared.names.Name.{Name}
use Rattle.k_types.specs.Agree.{BookValue, CellValue}
use Rattle.k_types.specs.Effects.{after_ended}
use Rattle.k_types.specs.Names.{name_among}
use Rattle.k_types.specs.Owners.{objects_of, owner_of}
use Rattle.k_types.specs.State.{State, has_exit, has_share}
use Rattle.k_types.specs.Steps.{state_after}
use Rattle.k_types.specs.Trace.{Trace}
use Rattle.k_commit.specs.k_book.Books.{BookRecord}
use Rattle.k_commit.specs.k_cell.Holdings.{HoldingsValue}
use Rattle.k_commit.specs.k_heap.Heaps.{HeapRecord}
use Rattle.k_collect.specs.Begun.{HasAppended, HeapGoesOn, KernelGoesOn}

-- the state that the machine's end of the heap's collection leaves
abbrev pub ended_state : Trace → Heap → BookRecord → State
ended_state trace heap book = after_ended trace heap (state_after trace book.journal.list)

-- cell and book have exactly what is left in that state: the objects and exit items of the heap, and all shares
pub record HaveWhatIsLeft (trace : Trace) (heap : Heap) (st : State) (value : CellValue) (book : BookValue) : Type 0 where
  pub survivors : value.objects ≡ objects_of (owner_of trace st) heap st.objects
  pub exits : (n : Name) → name_among n value.exits ≡ has_exit st.exits heap n
  pub shares : (p t : ℕ) → has_share book.shares p t ≡ has_share st.shares p t

-- the end of the collection of the process's heap is appended, with the numbers with which it is possible: the machine's
pub record HasEndedHeap (trace : Trace) (old_cell cell : HeapRecord) (old_book book : BookRecord) (event : Event) : Type 0 where
  pub objects : ℕ
  pub bytes : ℕ
  pub exits : ℕ
  pub shares : ℕ
  pub event_is : event ≡ Ended (User old_cell.pid) objects bytes exits shares
  pub appended : HasAppended trace old_book book event
  pub heap_goes_on : HeapGoesOn trace old_cell cell book Idle
  pub left : HaveWhatIsLeft trace (User old_cell.pid) (ended_state trace (User old_cell.pid) old_book) cell.value book.value

-- the same for the kernel's heap, whose collections drop no share
pub record HasEndedKernel (trace : Trace) (old_kernel kernel : HoldingsValue) (old_book book : BookRecord) (event : Event) : Type 0 where
  pub objects : ℕ
  pub bytes : ℕ
  pub exits : ℕ
  pub event_is : event ≡ Ended Kernel objects bytes exits 0
  pub appended : HasAppended trace old_book book event
  pub kernel_goes_on : KernelGoesOn trace old_kernel kernel book Idle
  pub left : HaveWhatIsLeft trace Kernel (ended_state trace Kernel old_book) kernel.value book.value
