-- What an idle cell shows of its part, and the parts that the touched cells show.
use Rattle.std.specs.Prelude.{◌≡◌, ℕ, ◌+◌, ◌∷◌, ◌++◌, [], map, slice_index_or, slice_set, Option, Some, None, option_map, if◌then◌else◌, List}
use Rattle.k_types.specs.declared.names.Name.{Name}
use Rattle.k_types.specs.declared.names.Field.{Field}
use Rattle.k_types.specs.declared.names.CellPhase.TheVariants.{Idle}
use Rattle.k_types.specs.declared.names.TypeId.{TypeId}
use Rattle.k_types.specs.Agree.{CellValue}
use Rattle.k_types.specs.Cells.{Cell, CellPart}
use Rattle.k_types.specs.Names.{heap_eq, name_among}
use Rattle.k_types.specs.State.{State, Content, fresh}
use Rattle.k_types.specs.Trace.{Trace}
use Rattle.k_types.specs.Updates.{object_after_write, with_object}
use Rattle.k_laws.specs.PartUpdates.{process_with_register}
use Rattle.k_laws.specs.CellChanges.{given}
use Rattle.k_agree.specs.Agreement.{Shows}

-- what a cell shows of its part while no collection is open
abbrev pub idle_part : CellValue → CellPart
idle_part v = record {
  objects = v.objects;
  made = λ seg. slice_index_or v.made seg None;
  exits = λ n. name_among n v.exits;
  scan = None;
  process = v.process;
  phase = v.phase;
}

-- one part for every cell: all that is read where an event touches this cell alone
abbrev pub part_alone : CellPart → Cell → CellPart
part_alone c cell = c

-- the part of the one cell, and the same for every other: all that is read where an event touches two cells
abbrev pub two_parts : Cell → CellPart → CellPart → Cell → CellPart
two_parts one c other cell = if heap_eq one cell then c else other

-- the cell shows its part of the state, and no collection is open
pub record ShowsIdle (trace : Trace) (st : State) (cell : Cell) (v : CellValue) : Type 0 where
  pub shows : Shows trace st cell v
  pub idle : v.collection ≡ Idle

-- the register of the cell's process holds the reference
abbrev pub value_with_register : ℕ → Option Name → CellValue → CellValue
value_with_register r x v = record v { process = option_map (process_with_register r x) v.process }

-- the segment has one more object, of that type and with fresh fields
abbrev pub value_with_new : ℕ → TypeId → List Field → CellValue → CellValue
value_with_new seg ty kinds v = record v {
  objects = with_object (record {
    name = record { seg = record { 0 = seg }; serial = record { 0 = given (slice_index_or v.made seg None) + 1 } };
    ty = Some ty;
    fields = map fresh kinds;
  }) v.objects;
  made = slice_set v.made seg (Some (given (slice_index_or v.made seg None) + 1));
}

-- the field of the object holds that
abbrev pub value_with_field : Name → ℕ → Content → CellValue → CellValue
value_with_field x i content v = record v { objects = map (object_after_write x i content) v.objects }

-- there is an exit item to the object
abbrev pub value_with_exit : Name → CellValue → CellValue
value_with_exit y v = record v { exits = if name_among y v.exits then v.exits else v.exits ++ y ∷ [] }
