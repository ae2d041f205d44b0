-- Cells of which the work is over.
use Rattle.std.specs.Prelude.{◌≡◌, ◌≢◌, ◌<◌, ℕ, List, [], Some, length, slice_get}
use Rattle.k_types.specs.Trace.{Trace}
use Rattle.k_heap.specs.Heaps.{HeapRecord}
use Rattle.k_operate.specs.k_process.declared.process.Process.{Process}
use Rattle.k_operate.specs.k_process.Heaps.{HeapsValue}
use Rattle.k_operate.specs.k_process.BetweenSteps.{AllStand, IsThroughWith}
use Rattle.k_operate.specs.k_process.Worlds.{WorldValue}
use Rattle.k_operate.specs.Collecting.{HasSameLeft}

-- all heaps and the book stand, and each process is through
pub record AllThrough (world : WorldValue) (heaps : HeapsValue) : Type 0 where
  pub stand : AllStand world heaps
  pub through : (k : ℕ) (p : Process) → slice_get heaps.processes k ≡ Some p → IsThroughWith world.trace p.cell

-- the process has done nothing, though another may have ended it: it is through where it was, and has nothing unpublished where it had none
pub record IsKept (trace : Trace) (old new : HeapRecord) : Type 0 where
  pub same : HasSameLeft trace old new
  pub through : IsThroughWith trace old → IsThroughWith trace new
  pub published : old.value.tail ≡ [] → new.value.tail ≡ []

-- so has each process but that of the number
abbrev pub AreKeptBut : Trace → ℕ → List Process → List Process → Type 0
AreKeptBut trace at old new = (k : ℕ) (p q : Process) → k ≢ at → slice_get old k ≡ Some p → slice_get new k ≡ Some q → IsKept trace p.cell q.cell

-- all stand, and there is a process of that number
pub record CanComplete (world : WorldValue) (heaps : HeapsValue) (at : ℕ) : Type 0 where
  pub stand : AllStand world heaps
  pub inside : at < length heaps.processes

-- all stand still, the process of that number is through, and each other is kept
pub record HasCompleted (world : WorldValue) (at : ℕ) (old new : HeapsValue) : Type 0 where
  pub stand : AllStand world new
  pub through : (p : Process) → slice_get new.processes at ≡ Some p → IsThroughWith world.trace p.cell
  pub others : AreKeptBut world.trace at old.processes new.processes
