-- Processes, kernel, shared heaps and book of one run, as they stand between steps.
use Rattle.std.specs.Prelude.{◌≡◌, ℕ, IsFalse, List, Option, Some, None, [], ◌∷◌, length, slice_get}
use Rattle.k_types.specs.declared.op.Op.{Op}
use Rattle.k_types.specs.Trace.{Trace, operations_of, process_count}
use Rattle.k_commit.specs.k_book.Books.{BookRecord}
use Rattle.k_commit.specs.k_heap.Holdings.{HoldingsValue}
use Rattle.k_commit.specs.k_heap.Heaps.{HeapRecord, has_ended_in}
use Rattle.k_commit.specs.SharedHeaps.{SharedRecord}
use Rattle.k_process.specs.Keeping.{BookKeeps, HeapKeeps, KernelKeeps, SharedKeeps, operations_left}
use Rattle.k_process.specs.declared.process.Process.{Process}
use Rattle.k_process.specs.Heaps.{HeapsValue}
use Rattle.k_process.specs.Worlds.{WorldValue}

-- the cell keeps what the locks ask, and the operations are the trace's
pub record ProcessStands (world : WorldValue) (p : Process) : Type 0 where
  pub cell : HeapKeeps world.trace world.table p.cell
  pub operations : p.ops.items ≡ operations_of world.trace p.cell.pid.0

-- there is a process for each of the trace, in the place of its number
pub record ProcessesStand (world : WorldValue) (ps : List Process) : Type 0 where
  pub count : length ps ≡ process_count world.trace
  pub each : (k : ℕ) (p : Process) → slice_get ps k ≡ Some p → ProcessStands world p
  pub placed : (k : ℕ) (p : Process) → slice_get ps k ≡ Some p → p.cell.pid.0 ≡ k

-- nothing of any of these processes is unpublished
abbrev pub ArePublished : List Process → Type 0
ArePublished ps = (k : ℕ) (p : Process) → slice_get ps k ≡ Some p → p.cell.value.tail ≡ []

-- there is a cell for each shared heap of the trace, in the place of its number
pub record HeapsStand (world : WorldValue) (shared : List SharedRecord) : Type 0 where
  pub count : length shared ≡ world.trace.shared_heaps
  pub each : (k : ℕ) (s : SharedRecord) → slice_get shared k ≡ Some s → SharedKeeps world.trace world.table s
  pub placed : (k : ℕ) (s : SharedRecord) → slice_get shared k ≡ Some s → s.id.0 ≡ k

-- the kernel, all shared heaps and the book stand
pub record RestStands (world : WorldValue) (k : HoldingsValue) (heaps : List SharedRecord) (b : BookRecord) : Type 0 where
  pub kernel : KernelKeeps world.trace world.table k
  pub shared : HeapsStand world heaps
  pub book : BookKeeps world.trace world.table b

-- all heaps and the book stand
pub record AllStand (world : WorldValue) (heaps : HeapsValue) : Type 0 where
  pub processes : ProcessesStand world heaps.processes
  pub rest : RestStands world heaps.kernel heaps.shared heaps.book

-- the process lives, and the operation comes next in the trace
pub record ComesNext (trace : Trace) (c : HeapRecord) (op : Op) : Type 0 where
  pub rest : List Op
  pub left : operations_left trace c ≡ op ∷ rest
  pub lives : IsFalse (has_ended_in c.value.process)

-- the process has done the operation
pub record HasDone (trace : Trace) (op : Op) (old new : HeapRecord) : Type 0 where
  pub pid : new.pid ≡ old.pid
  pub left : operations_left trace old ≡ op ∷ operations_left trace new

-- nothing of the process is unpublished, and it has ended or done all its operations
pub record IsThroughWith (trace : Trace) (c : HeapRecord) : Type 0 where
  pub published : c.value.tail ≡ []
  pub all : IsFalse (has_ended_in c.value.process) → operations_left trace c ≡ []

-- it is the process's next operation; there is none where the process has ended or done all
abbrev pub IsNextOf : Trace → HeapRecord → Option Op → Type 0
IsNextOf trace c None = IsFalse (has_ended_in c.value.process) → operations_left trace c ≡ []
IsNextOf trace c (Some op) = ComesNext trace c op
