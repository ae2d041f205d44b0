-- What is seen of the cell of a process.
use Rattle.std.specs.Prelude.{ℕ, ◌+◌, ◌==◌, Bool, false, List, [], map, length, Option, Some, None, option_map, if◌then◌else◌}
use Rattle.k_types.specs.declared.event.Event.{Event}
use Rattle.k_types.specs.declared.names.Heap.TheVariants.{User}
use Rattle.k_types.specs.declared.names.Link.{Link}
use Rattle.k_types.specs.declared.names.Name.{Name}
use Rattle.k_types.specs.declared.names.Pid.{Pid}
use Rattle.k_types.specs.declared.setup.Setup.{Setup}
use Rattle.k_types.specs.Agree.{CellValue}
use Rattle.k_types.specs.Cells.{ProcessPart}
use Rattle.k_types.specs.Names.{name_of}
use Rattle.k_types.specs.Numbers.{numbers_below}
use Rattle.k_types.specs.Trace.{trace_of}
use Rattle.k_cell.specs.k_laws.PartUpdates.{process_with_register}
use Rattle.k_cell.specs.CellChanges.{ended_process}
use Rattle.k_cell.specs.k_space.Objects.{BodyValue}
use Rattle.k_cell.specs.k_tie.Values.{NoteValue}
use Rattle.k_cell.specs.Opening.{opening_cell}
use Rattle.k_cell.specs.Holdings.{HoldingsValue}
use Rattle.k_heap.specs.declared.heap.CellRooms.{CellRooms}

-- a process's cell: what it shows of the state, its note, the bodies for the allocations to come, and the rooms: how many numbers
-- for segments there are, how many segments it can have, how many objects can live in each at once, and how many exit items and
-- unpublished events there can be
pub record HeapRecord : Type 0 where
  pub pid : Pid
  pub note : NoteValue
  pub value : CellValue
  pub bodies : List BodyValue
  pub bound : ℕ
  pub segment_room : ℕ
  pub serial_rooms : List (Option ℕ)
  pub exit_room : ℕ
  pub tail_room : ℕ

-- the cell with its process and its unpublished events
abbrev pub of_process : List (Option Link) → ℕ → Bool → List Event → CellValue → CellValue
of_process registers done has_ended tail v =
    record v { process = Some (record { registers = map (option_map name_of) registers; done = done; has_ended = has_ended }); tail = tail }

-- the cell as its parts show it
abbrev pub heap_seen : HoldingsValue → Pid → List (Option Link) → ℕ → Bool → List Event → ℕ → List BodyValue → HeapRecord
heap_seen h pid registers done has_ended tail tail_room bodies = record {
  pid = pid;
  note = h.note;
  value = of_process registers done has_ended tail h.value;
  bodies = bodies;
  bound = h.bound;
  segment_room = h.segment_room;
  serial_rooms = h.serial_rooms;
  exit_room = h.exit_room;
  tail_room = tail_room;
}

-- the process has ended, by its cell
abbrev pub has_ended_in : Option ProcessPart → Bool
has_ended_in None = false
has_ended_in (Some process) = process.has_ended

-- the register holds the reference
abbrev pub with_register_in : ℕ → Option Name → CellValue → CellValue
with_register_in r value v = record v { process = option_map (process_with_register r value) v.process }

-- the process has ended, and its registers are null
abbrev pub with_process_ended : CellValue → CellValue
with_process_ended v = record v { process = option_map ended_process v.process }

-- the number of the segment with which the process's heap begins
abbrev pub own_segment : Pid → ℕ
own_segment pid = pid.0 + 1

-- how many segments a setup has: one for the kernel, each process and each shared heap
abbrev pub segments_of : Setup → ℕ
segments_of setup = 1 + length setup.procs.items + setup.shared

-- the cell before the first event
abbrev pub opened_heap : Setup → Pid → List BodyValue → CellRooms → NoteValue → HeapRecord
opened_heap setup pid bodies rooms note = record {
  pid = pid;
  note = note;
  value = opening_cell (trace_of setup [] []) (User pid);
  bodies = bodies;
  bound = segments_of setup;
  segment_room = 1;
  serial_rooms = map (λ number. if number == own_segment pid then Some rooms.objects else None) (numbers_below (segments_of setup));
  exit_room = rooms.exits;
  tail_room = rooms.tail;
}

-- the holdings of the cell
abbrev pub holdings_of : HeapRecord → HoldingsValue
holdings_of c = record {
  value = record c.value { process = None; tail = [] };
  note = c.note;
  bound = c.bound;
  segment_room = c.segment_room;
  serial_rooms = c.serial_rooms;
  exit_room = c.exit_room;
}
