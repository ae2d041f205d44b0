-- A cell beside the process's own, whatever heap it is of.
use Rattle.std.specs.Prelude.{ℕ}
use Rattle.k_types.specs.declared.names.Heap.TheVariants.{Kernel, Shared, User}
use Rattle.k_types.specs.declared.names.SharedId.{SharedId}
use Rattle.k_types.specs.Agree.{CellValue}
use Rattle.k_types.specs.Cells.{Cell}
use Rattle.k_tie.specs.Values.{NoteValue}
use Rattle.k_book.specs.k_agree.Committing.{NotedCell}
use Rattle.k_heap.specs.Holdings.{HoldingsValue}
use Rattle.k_agree.specs.Moves.{noted}
use Rattle.k_shared.specs.SharedHeaps.{SharedRecord}

-- whose heap's cell it is, the segment with which that heap begins, and what the cell holds
pub record OtherValue : Type 0 where
  pub cell : Cell
  pub seg : ℕ
  pub held : HoldingsValue

-- the kernel's cell as such a one
abbrev pub of_kernel : HoldingsValue → OtherValue
of_kernel kernel = record { cell = Kernel; seg = 0; held = kernel }

-- the cell of a shared heap as such a one
abbrev pub of_shared : SharedRecord → OtherValue
of_shared shared = record {
  cell = Shared shared.id;
  seg = shared.seg.0;
  held = record {
    value = shared.value;
    note = shared.note;
    bound = shared.bound;
    segment_room = shared.segment_room;
    serial_rooms = shared.serial_rooms;
    exit_room = shared.exit_room;
  };
}

-- the cell with its note and its value
abbrev pub noted_of : OtherValue → NotedCell
noted_of other = noted other.cell other.held.note other.held.value

-- the same cell with another value
abbrev pub with_value : CellValue → OtherValue → OtherValue
with_value value other = record other { held = record other.held { value = value } }

-- the same cell with another note
abbrev pub with_note : NoteValue → OtherValue → OtherValue
with_note note other = record other { held = record other.held { note = note } }

-- what the cell holds, by which the kernel's is known
abbrev pub held_by : OtherValue → HoldingsValue
held_by other = other.held

-- the shared heap whose cell it is; the first one for any other cell
abbrev pub heap_named : Cell → SharedId
heap_named (Shared id) = id
heap_named (User pid) = record { 0 = 0 }
heap_named Kernel = record { 0 = 0 }

-- the cell of the shared heap again
abbrev pub shared_by : OtherValue → SharedRecord
shared_by other = record {
  id = heap_named other.cell;
  seg = record { 0 = other.seg };
  note = other.held.note;
  value = other.held.value;
  bound = other.held.bound;
  segment_room = other.held.segment_room;
  serial_rooms = other.held.serial_rooms;
  exit_room = other.held.exit_room;
}
