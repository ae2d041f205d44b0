-- A heap that becomes the kernel's, by the end of its process or by an absorption.
use Rattle.std.specs.Prelude.{◌≡◌, ℕ, ◌&&◌, ◌||◌, not, [], slice_index_or, Some, None, option_map}
use Rattle.k_laws.specs.k_types.declared.names.Heap.{Heap}
use Rattle.k_laws.specs.k_types.declared.names.Name.{Name}
use Rattle.k_laws.specs.k_types.declared.names.Phase.TheVariants.{Absorbed}
use Rattle.k_laws.specs.k_types.Agree.{CellValue}
use Rattle.k_laws.specs.k_types.Names.{heap_eq, name_among}
use Rattle.k_laws.specs.PartUpdates.{process_with_done}
use Rattle.k_laws.specs.k_types.Reach.{is_shared_heap}
use Rattle.k_laws.specs.CellChanges.{either_of, ended_process, with_objects}

-- the cell has nothing left
abbrev pub emptied : CellValue → CellValue
emptied value = record value { objects = []; made = []; exits = [] }

-- the cell of a process that has ended
abbrev pub ended_cell : CellValue → CellValue
ended_cell value = record (emptied value) { process = option_map ended_process value.process }

-- the cell of a process that has done one more operation
abbrev pub with_one_done : CellValue → CellValue
with_one_done value = record value { process = option_map process_with_done value.process }

-- the cell of a shared heap that was absorbed
abbrev pub absorbed_cell : CellValue → CellValue
absorbed_cell value = record (emptied value) { phase = Some Absorbed }

-- the kernel has the objects and segments of the heap g beside its own, its exit items but for those into g, and those of g into
-- shared heaps; all else is as it was
pub record HasTakenIn (own : ℕ → Heap) (g : Heap) (heap kernel after : CellValue) : Type 0 where
  pub objects : after.objects ≡ with_objects heap.objects kernel.objects
  pub made : (seg : ℕ) → slice_index_or after.made seg None ≡ either_of (slice_index_or kernel.made seg None) (slice_index_or heap.made seg None)
  pub exits : (n : Name) → name_among n after.exits
      ≡ ((name_among n kernel.exits && not (heap_eq (own n.seg.0) g)) || (name_among n heap.exits && is_shared_heap (own n.seg.0)))
  pub rest : after ≡ record kernel { objects = after.objects; made = after.made; exits = after.exits }
