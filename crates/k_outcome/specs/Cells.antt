-- What the cells of a run that is over show, heap by heap.
use Rattle.std.specs.Prelude.{◌<◌, [], length, Option, Some, None, slice_get}
use Rattle.k_types.specs.declared.names.CellPhase.TheVariants.{Idle}
use Rattle.k_types.specs.declared.names.Heap.{Heap}
use Rattle.k_types.specs.declared.names.Heap.TheVariants.{Kernel, Shared, User}
use Rattle.k_types.specs.Agree.{CellValue}
use Rattle.k_heap.specs.Heaps.{HeapRecord}
use Rattle.k_shared.specs.SharedHeaps.{SharedRecord}
use Rattle.k_process.specs.Over.{OutcomeValue}

-- what stands for a cell that is not there
abbrev pub no_cell : CellValue
no_cell = record {
  objects = [];
  made = [];
  exits = [];
  process = None;
  phase = None;
  tail = [];
  collection = Idle;
  gray = [];
  black = [];
  black_exits = [];
}

-- what the cell of a process shows
abbrev pub process_value : Option HeapRecord → CellValue
process_value None = no_cell
process_value (Some c) = c.value

-- what the cell of a shared heap shows
abbrev pub shared_value : Option SharedRecord → CellValue
shared_value None = no_cell
shared_value (Some c) = c.value

-- what the cell of the heap shows
abbrev pub cell_at : OutcomeValue → Heap → CellValue
cell_at o Kernel = o.kernel.value
cell_at o (User p) = process_value (slice_get o.processes p.0)
cell_at o (Shared s) = shared_value (slice_get o.shared s.0)

-- the heap has a cell
abbrev pub IsThere : OutcomeValue → Heap → Type 0
IsThere o Kernel = Unit {0}
IsThere o (User p) = p.0 < length o.processes
IsThere o (Shared s) = s.0 < length o.shared
