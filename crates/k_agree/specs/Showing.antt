-- For each state, values that show it.
use Rattle.std.specs.Prelude.{ℕ, List, [], ◌∷◌, ◌++◌, map, filter, length, slice_index_or, Option, Some, None, unwrap_or, if◌then◌else◌}
use Rattle.k_laws.specs.k_types.declared.names.CellPhase.{CellPhase}
use Rattle.k_laws.specs.k_types.declared.names.CellPhase.TheVariants.{Idle, Begun}
use Rattle.k_laws.specs.k_types.declared.names.Heap.{Heap}
use Rattle.k_laws.specs.k_types.declared.names.Name.{Name}
use Rattle.k_laws.specs.k_types.Agree.{BookValue, CellValue}
use Rattle.k_laws.specs.k_types.Counted.{Counted}
use Rattle.k_laws.specs.k_types.Cells.{Cell, made_of, phase_shown, process_of}
use Rattle.k_laws.specs.k_types.Limits.{direct_by}
use Rattle.k_laws.specs.k_types.Names.{heap_eq}
use Rattle.k_laws.specs.k_types.Numbers.{numbers_below}
use Rattle.k_laws.specs.k_types.Owners.{bytes_of, charge_of, objects_of, owner_of, shared, user}
use Rattle.k_laws.specs.k_types.State.{State, ExitItem, scan_of}
use Rattle.k_laws.specs.k_types.Trace.{Trace, process_count, segment_count}

-- the targets of the heap's exit items
abbrev pub targets_of : Heap → List ExitItem → List Name
targets_of h exits = map (λ e. e.target) (filter (λ e. heap_eq e.heap h) exits)

-- a collection that is open has just begun
abbrev pub phase_of_scan : Option (List Name) → CellPhase
phase_of_scan None = Idle
phase_of_scan (Some roots) = Begun

-- a value of the cell that shows its part
abbrev pub cell_of : Trace → State → Cell → CellValue
cell_of trace st c = record {
  objects = objects_of (owner_of trace st) c st.objects;
  made = map (made_of (owner_of trace st) st.made c) (numbers_below (segment_count trace));
  exits = targets_of c st.exits;
  process = process_of st c;
  phase = phase_shown st c;
  tail = [];
  collection = phase_of_scan (scan_of st.scans c);
  gray = unwrap_or (scan_of st.scans c) [];
  black = [];
  black_exits = [];
}

-- the object, counted once
abbrev pub once : Name → Counted
once n = record { object = n; count = 1 }

-- the pin of a register of the process, if it holds an object that its heap does not own
abbrev pub pin_of : (ℕ → Heap) → ℕ → Option Name → List Counted
pin_of own p None = []
pin_of own p (Some m) = if heap_eq (user p) (own m.seg.0) then [] else once m ∷ []

-- the pins of these registers of the process
abbrev pub row_pins : (ℕ → Heap) → ℕ → List (Option Name) → List Counted
row_pins own p [] = []
row_pins own p (r ∷ registers) = pin_of own p r ++ row_pins own p registers

-- the pins of these processes
abbrev pub all_pins : (ℕ → Heap) → List (List (Option Name)) → List ℕ → List Counted
all_pins own registers [] = []
all_pins own registers (p ∷ processes) = row_pins own p (slice_index_or registers p []) ++ all_pins own registers processes

-- a value of the book that shows its part
abbrev pub book_of : Trace → State → BookValue
book_of trace st = record {
  ended = st.ended;
  closed = st.closed;
  shares = st.shares;
  phases = st.phases;
  shared_bytes = map (λ s. bytes_of trace st (shared s)) (numbers_below trace.shared_heaps);
  direct = map (direct_by trace (charge_of trace st)) (numbers_below (length trace.limits));
  maxima = st.maxima;
  homes = map (owner_of trace st) (numbers_below (segment_count trace));
  entries = map (λ e. once e.target) st.exits;
  pins = all_pins (owner_of trace st) st.registers (numbers_below (process_count trace));
}
