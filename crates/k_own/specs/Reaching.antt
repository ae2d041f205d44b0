-- Which cells beside the process's own an operation touches, as the cell and the book tell it.
use Rattle.std.specs.Prelude.{◌≡◌, ◌<◌, ℕ, IsTrue, List, [], ◌∷◌, length}
use Rattle.k_types.specs.declared.names.Heap.{Heap}
use Rattle.k_types.specs.declared.names.SharedId.{SharedId}
use Rattle.k_types.specs.declared.names.Heap.TheVariants.{Kernel as KernelHeap, Shared as SharedHeap, User}
use Rattle.k_types.specs.declared.op.Op.{Op}
use Rattle.k_types.specs.Cells.{Cell}
use Rattle.k_types.specs.Steps.{in_range}
use Rattle.k_types.specs.Trace.{Trace, process_count}
use Rattle.k_agree.specs.Agreement.{Agrees}
use Rattle.k_commit.specs.k_book.Books.{BookRecord}
use Rattle.k_commit.specs.k_heap.Heaps.{HeapRecord}
use Rattle.k_commit.specs.Standing.{BookStands}
use Rattle.k_own.specs.declared.reached.Reach.{Reach}
use Rattle.k_own.specs.declared.reached.Reach.TheVariants.{Own, Kernel, Shared, End}

-- the cells beside the process's own
abbrev pub cells_of : Reach → List Cell
cells_of Own = []
cells_of Kernel = KernelHeap ∷ []
cells_of (Shared s) = SharedHeap s ∷ []
cells_of (End q) = User q ∷ KernelHeap ∷ []

-- the book stands, the cell agrees with the same trace, and the operation names what the trace declares
pub record CanReach (trace : Trace) (cell : HeapRecord) (book : BookRecord) (op : Op) : Type 0 where
  pub book_stands : BookStands trace book
  pub agrees : Agrees trace (User cell.pid) cell.note cell.value
  pub in_range : IsTrue (in_range trace op)

-- the same of an operation that accesses a field through the register
pub record CanReachThrough (trace : Trace) (cell : HeapRecord) (book : BookRecord) (base : ℕ) : Type 0 where
  pub book_stands : BookStands trace book
  pub agrees : Agrees trace (User cell.pid) cell.note cell.value
  pub register : base < 16

-- the book stands, and knows both processes
pub record CanReachEnd (trace : Trace) (book : BookRecord) (p q : ℕ) : Type 0 where
  pub book_stands : BookStands trace book
  pub process : p < process_count trace
  pub target : q < process_count trace

-- the book knows the process, and the shared heap where the owner of an object is one
pub record CanReachOwner (book : BookRecord) (p : ℕ) (owner : Heap) : Type 0 where
  pub process : p < length book.procs
  pub heap : (s : SharedId) → owner ≡ SharedHeap s → s.0 < length book.value.phases
