-- What is seen of the kernel's cell: its holdings, in which no process stands and no event is unpublished.
use Rattle.std.specs.Prelude.{ℕ, ◌+◌, ◌==◌, [], map, length, Some, None, if◌then◌else◌}
use Rattle.k_types.specs.declared.names.Heap.TheVariants.{Kernel}
use Rattle.k_types.specs.declared.setup.Setup.{Setup}
use Rattle.k_types.specs.Numbers.{numbers_below}
use Rattle.k_types.specs.Trace.{trace_of}
use Rattle.k_cell.specs.k_tie.Values.{NoteValue}
use Rattle.k_cell.specs.Opening.{opening_cell}
use Rattle.k_cell.specs.Holdings.{HoldingsValue}

-- how many segments a setup has: one for the kernel, each process and each shared heap
abbrev pub segments_of : Setup → ℕ
segments_of setup = 1 + length setup.procs.items + setup.shared

-- the kernel's cell before the first event, which has room for every segment of the setup
abbrev pub opened_kernel : Setup → ℕ → ℕ → NoteValue → HoldingsValue
opened_kernel setup objects exits note = record {
  value = opening_cell (trace_of setup [] []) Kernel;
  note = note;
  bound = segments_of setup;
  segment_room = segments_of setup;
  serial_rooms = map (λ number. if number == 0 then Some objects else None) (numbers_below (segments_of setup));
  exit_room = exits;
}
