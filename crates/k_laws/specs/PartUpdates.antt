-- The changes on the part of a cell.
use Rattle.std.specs.Prelude.{ℕ, ◌+◌, map, slice_set, slice_index_or, Option, Some, None, option_map}
use Rattle.k_types.specs.declared.names.Name.{Name}
use Rattle.k_types.specs.State.{Content}
use Rattle.k_types.specs.Updates.{object_after_write}
use Rattle.k_types.specs.Cells.{CellPart, ProcessPart}

-- a register of the cell's process
abbrev pub held_in : Option ProcessPart → ℕ → Option Name
held_in None r = None
held_in (Some process) r = slice_index_or process.registers r None

-- the process's register holds the value
abbrev pub process_with_register : ℕ → Option Name → ProcessPart → ProcessPart
process_with_register r v q = record q { registers = slice_set q.registers r v }

-- the process has done one more operation
abbrev pub process_with_done : ProcessPart → ProcessPart
process_with_done q = record q { done = q.done + 1 }

-- the register of the cell's process holds the value
abbrev pub with_register : ℕ → Option Name → CellPart → CellPart
with_register r v c = record c { process = option_map (process_with_register r v) c.process }

-- one more operation of the cell's process is done
abbrev pub with_done : CellPart → CellPart
with_done c = record c { process = option_map process_with_done c.process }

-- the field of the object holds the content
abbrev pub with_written : Name → ℕ → Content → CellPart → CellPart
with_written x i content c = record c { objects = map (object_after_write x i content) c.objects }

-- the operations that the cell's process has done
abbrev pub done_in : Option ProcessPart → ℕ
done_in None = 0
done_in (Some process) = process.done
