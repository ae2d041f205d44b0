-- What is seen of the cell of a shared heap.
use Rattle.std.specs.Prelude.{ℕ, ◌==◌, List, [], map, Option, Some, None, if◌then◌else◌}
use Rattle.k_types.specs.declared.names.Heap.TheVariants.{Shared}
use Rattle.k_types.specs.declared.names.Phase.{Phase}
use Rattle.k_types.specs.declared.names.Seg.{Seg}
use Rattle.k_types.specs.declared.names.SharedId.{SharedId}
use Rattle.k_types.specs.declared.setup.Setup.{Setup}
use Rattle.k_types.specs.Agree.{CellValue}
use Rattle.k_types.specs.Numbers.{numbers_below}
use Rattle.k_types.specs.Trace.{segment_count, segment_of, trace_of}
use Rattle.k_cell.specs.k_tie.Values.{NoteValue}
use Rattle.k_cell.specs.Opening.{opening_cell}
use Rattle.k_cell.specs.Holdings.{HoldingsValue}

-- a shared heap's cell: the heap, the segment with which it begins, its note, what it shows of the state, and the rooms: how many
-- numbers for segments there are, how many segments it can have, how many objects can live in each at once, and how many exit
-- items there can be
pub record SharedRecord : Type 0 where
  pub id : SharedId
  pub seg : Seg
  pub note : NoteValue
  pub value : CellValue
  pub bound : ℕ
  pub segment_room : ℕ
  pub serial_rooms : List (Option ℕ)
  pub exit_room : ℕ

-- the shared heap is in that phase
abbrev pub with_phase : Phase → CellValue → CellValue
with_phase phase v = record v { phase = Some phase }

-- the cell as its parts show it
abbrev pub shared_seen : HoldingsValue → SharedId → Seg → Phase → SharedRecord
shared_seen h id seg phase = record {
  id = id;
  seg = seg;
  note = h.note;
  value = with_phase phase h.value;
  bound = h.bound;
  segment_room = h.segment_room;
  serial_rooms = h.serial_rooms;
  exit_room = h.exit_room;
}

-- the number of the segment with which the shared heap begins
abbrev pub shared_segment : Setup → SharedId → ℕ
shared_segment setup id = segment_of (trace_of setup [] []) (Shared id)

-- the cell before the first event
abbrev pub opened_shared : Setup → SharedId → ℕ → ℕ → NoteValue → SharedRecord
opened_shared setup id objects exits note = record {
  id = id;
  seg = record { 0 = shared_segment setup id };
  note = note;
  value = opening_cell (trace_of setup [] []) (Shared id);
  bound = segment_count (trace_of setup [] []);
  segment_room = 1;
  serial_rooms = map (λ number. if number == shared_segment setup id then Some objects else None) (numbers_below (segment_count (trace_of setup [] [])));
  exit_room = exits;
}

-- the holdings of the cell
abbrev pub holdings_of : SharedRecord → HoldingsValue
holdings_of c = record {
  value = record c.value { phase = None };
  note = c.note;
  bound = c.bound;
  segment_room = c.segment_room;
  serial_rooms = c.serial_rooms;
  exit_room = c.exit_room;
}
