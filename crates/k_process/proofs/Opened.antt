-- What was just made keeps what the locks ask.
use Rattle.std.proofs.Common.{◌≡◌, ℕ, ◌+◌, ◌<◌, ◌≤◌, ◌==◌, cond, refl, sym, ap, ◌∙◌, List, [], length, map, arith, eq-eqb, Some, None}
use Rattle.atomic_table.specs.Seated.{TableId}
use Rattle.k_types.specs.declared.names.Heap.TheVariants.{Kernel, Shared, User}
use Rattle.k_types.specs.declared.names.Pid.{Pid}
use Rattle.k_types.specs.declared.names.SharedId.{SharedId}
use Rattle.k_types.specs.declared.op.Op.{Op}
use Rattle.k_types.specs.declared.setup.Setup.{Setup}
use Rattle.k_types.specs.Numbers.{numbers_below}
use Rattle.k_types.specs.Trace.{Trace, operations_of, process_count, segment_count, segment_of, trace_of}
use Rattle.k_types.specs.TraceRules.{KeepsRules}
use Rattle.k_laws.specs.Counts.{stores_in}
use Rattle.k_laws.proofs.ByProcess.{follows_own}
use Rattle.k_tie.specs.Values.{blank_note, empty_journal}
use Rattle.k_commit.specs.k_agree.Rooms.{event_room, exit_room, serial_room}
use Rattle.k_commit.proofs.Openings.{opened_cell}
use Rattle.k_space.specs.Objects.{BodyValue}
use Rattle.k_process.specs.Bodies.{bodies_of}
use Rattle.k_commit.specs.Books.{opened}
use Rattle.k_commit.proofs.Telling.{opened_agrees, opened_of}
use Rattle.k_commit.specs.CellRooms.{CellRooms}
use Rattle.k_commit.specs.Heaps.{opened_heap, own_segment}
use Rattle.k_commit.specs.Kernels.{opened_kernel}
use Rattle.k_commit.specs.SharedHeaps.{opened_shared}
use Rattle.k_process.specs.Keeping.{BookKeeps, CanGive, HeapKeeps, KernelKeeps, SharedKeeps}
use Rattle.k_process.specs.Rooms.{shared_exit_room}
use Rattle.k_process.proofs.Kept.{drop_none}
use Rattle.k_types.proofs.Lists.{at_number}

module _ (setup : Setup) (operations : List (List Op)) (order : List ℕ) (table : TableId) (rules : KeepsRules (trace_of setup operations order)) where
  abbrev trace : Trace
  trace = trace_of setup operations order

  -- the one segment with which a cell begins has the serials that the cell was made for
  begins_with : (seg objects : ℕ) → seg < segment_count trace → serial_room trace seg ≤ objects →
      CanGive trace (map (λ number. cond (number == seg) (Some objects) None) (numbers_below (segment_count trace))) seg
  begins_with seg objects inside enough = record {
    room = objects;
    there =
        at_number (λ number. cond (number == seg) (Some objects) None) 0 (segment_count trace) seg None inside
        ∙ ap (λ t. cond t (Some objects) None) (eq-eqb (0 + seg) seg (omega arith));
    enough = enough;
  }

  pub opened_heap_keeps : (pid : Pid) (bodies : List BodyValue) (rooms : CellRooms) → pid.0 < process_count trace → bodies ≡ bodies_of trace.types (operations_of trace pid.0) →
      stores_in (operations_of trace pid.0) ≤ rooms.exits → serial_room trace (own_segment pid) ≤ rooms.objects → length (operations_of trace pid.0) ≤ rooms.tail →
      HeapKeeps trace table (opened_heap setup pid bodies rooms (blank_note table (own_segment pid)))
  opened_heap_keeps pid bodies rooms known made exits objects tail = record {
    rules = rules;
    agrees = opened_cell trace table (User pid) known;
    table = refl;
    idle = refl;
    follows = follows_own trace pid.0 [] tt (operations_of trace pid.0, refl);
    bodies = made ∙ ap (bodies_of trace.types) (sym (drop_none (operations_of trace pid.0)));
    rooms = record {
      exits = exits;
      serials = λ lives. begins_with (own_segment pid) rooms.objects (omega (arith, known)) objects;
      tail = tail;
    };
  }

  pub opened_kernel_keeps : (objects exits : ℕ) → exit_room trace ≤ exits → serial_room trace 0 ≤ objects → KernelKeeps trace table (opened_kernel setup objects exits (blank_note table 0))
  opened_kernel_keeps objects exits enough serials = record {
    rules = rules;
    agrees = opened_cell trace table Kernel tt;
    table = refl;
    idle = refl;
    exits = enough;
    serials = begins_with 0 objects (omega arith) serials;
    numbers = omega arith;
  }

  pub opened_shared_keeps : (id : SharedId) (objects exits : ℕ) → id.0 < trace.shared_heaps → shared_exit_room trace id.0 ≤ exits → serial_room trace (segment_of trace (Shared id)) ≤ objects →
      SharedKeeps trace table (opened_shared setup id objects exits (blank_note table (segment_of trace (Shared id))))
  opened_shared_keeps id objects exits known enough serials = record {
    rules = rules;
    agrees = opened_cell trace table (Shared id) known;
    table = refl;
    segment = refl;
    idle = refl;
    exits = enough;
    serials = λ stands. begins_with (segment_of trace (Shared id)) objects (omega (arith, known)) serials;
  }

  pub opened_book_keeps : (exits events : ℕ) → exit_room trace ≤ exits → event_room trace ≤ events → BookKeeps trace table (opened setup exits events events (empty_journal table))
  opened_book_keeps exits events entries enough = record {
    stands = record { keeps = rules; of_trace = opened_of setup operations order exits events events table; agrees = opened_agrees setup operations order exits events events table; pins = omega arith };
    table = refl;
    follows = record { operations = λ p known. (operations_of trace p, refl); not_closing = refl };
    events = enough;
    kept = enough;
    entries = entries;
  }
