-- Cells and a book that were just made stand in the world of their setup.
use Rattle.std.proofs.Common.{◌≡◌, ℕ, ◌<◌, ◌≤◌, sym, ap, subst, List, length}
use Rattle.k_types.specs.declared.names.Heap.TheVariants.{Shared}
use Rattle.k_types.specs.declared.names.Pid.{Pid}
use Rattle.k_types.specs.declared.names.SharedId.{SharedId}
use Rattle.k_types.specs.declared.setup.Setup.{Setup}
use Rattle.k_types.specs.Trace.{Trace, operations_of, process_count, segment_of, trace_of}
use Rattle.k_types.specs.TraceRules.{KeepsRules}
use Rattle.k_agree.specs.Rooms.{event_room, exit_room, serial_room}
use Rattle.k_process.specs.Bodies.{bodies_of}
use Rattle.k_laws.specs.Counts.{stores_in}
use Rattle.k_book.specs.Books.{opened}
use Rattle.k_heap.specs.declared.heap.CellRooms.{CellRooms}
use Rattle.k_heap.specs.Heaps.{opened_heap, own_segment}
use Rattle.k_kernel.specs.Kernels.{opened_kernel}
use Rattle.k_shared.specs.SharedHeaps.{opened_shared}
use Rattle.k_space.specs.Objects.{BodyValue}
use Rattle.k_tie.specs.Values.{JournalValue, NoteValue, blank_note, empty_journal}
use Rattle.k_process.specs.Keeping.{BookKeeps, HeapKeeps, KernelKeeps, SharedKeeps}
use Rattle.k_process.specs.Rooms.{shared_exit_room}
use Rattle.k_process.proofs.Opened.{opened_book_keeps, opened_heap_keeps, opened_kernel_keeps, opened_shared_keeps}
use Rattle.k_still.specs.Opening.{IsSetupOf}
use Rattle.k_process.specs.Worlds.{WorldValue}

module _ (world : WorldValue) (setup : Setup) (w : IsSetupOf setup world) where
  abbrev made : Trace
  made = trace_of setup world.trace.operations world.trace.order

  rules_made : KeepsRules made
  rules_made = subst KeepsRules w.is w.rules

  pub heap_stands : (pid : Pid) (bodies : List BodyValue) (rooms : CellRooms) (note : NoteValue) → pid.0 < process_count world.trace → note ≡ blank_note world.table (own_segment pid) →
      bodies ≡ bodies_of world.trace.types (operations_of world.trace pid.0) → stores_in (operations_of world.trace pid.0) ≤ rooms.exits → serial_room world.trace (own_segment pid) ≤ rooms.objects →
      length (operations_of world.trace pid.0) ≤ rooms.tail → HeapKeeps world.trace world.table (opened_heap setup pid bodies rooms note)
  heap_stands pid bodies rooms note known is made_bodies exits objects tail =
      subst (λ n. HeapKeeps world.trace world.table (opened_heap setup pid bodies rooms n)) (sym is)
      (subst (λ t. HeapKeeps t world.table (opened_heap setup pid bodies rooms (blank_note world.table (own_segment pid)))) (sym w.is)
      (opened_heap_keeps setup world.trace.operations world.trace.order world.table rules_made pid bodies rooms (subst (λ t. pid.0 < process_count t) w.is known)
      (subst (λ (t : Trace). bodies ≡ bodies_of t.types (operations_of t pid.0)) w.is made_bodies)
      (subst (λ t. stores_in (operations_of t pid.0) ≤ rooms.exits) w.is exits)
      (subst (λ t. serial_room t (own_segment pid) ≤ rooms.objects) w.is objects)
      (subst (λ t. length (operations_of t pid.0) ≤ rooms.tail) w.is tail)))

  pub kernel_stands : (objects exits : ℕ) (note : NoteValue) → note ≡ blank_note world.table 0 → exit_room world.trace ≤ exits → serial_room world.trace 0 ≤ objects →
      KernelKeeps world.trace world.table (opened_kernel setup objects exits note)
  kernel_stands objects exits note is enough serials =
      subst (λ n. KernelKeeps world.trace world.table (opened_kernel setup objects exits n)) (sym is)
      (subst (λ t. KernelKeeps t world.table (opened_kernel setup objects exits (blank_note world.table 0))) (sym w.is)
      (opened_kernel_keeps setup world.trace.operations world.trace.order world.table rules_made objects exits (subst (λ t. exit_room t ≤ exits) w.is enough) (subst (λ t. serial_room t 0 ≤ objects) w.is serials)))

  pub shared_stands : (id : SharedId) (objects exits : ℕ) (note : NoteValue) → id.0 < world.trace.shared_heaps → note ≡ blank_note world.table (segment_of world.trace (Shared id)) →
      shared_exit_room world.trace id.0 ≤ exits → serial_room world.trace (segment_of world.trace (Shared id)) ≤ objects → SharedKeeps world.trace world.table (opened_shared setup id objects exits note)
  shared_stands id objects exits note known is enough serials =
      subst (λ n. SharedKeeps world.trace world.table (opened_shared setup id objects exits n)) (sym is)
      (subst (λ t. SharedKeeps t world.table (opened_shared setup id objects exits (blank_note world.table (segment_of t (Shared id))))) (sym w.is)
      (opened_shared_keeps setup world.trace.operations world.trace.order world.table rules_made id objects exits (subst (λ (t : Trace). id.0 < t.shared_heaps) w.is known) (subst (λ t. shared_exit_room t id.0 ≤ exits) w.is enough)
      (subst (λ t. serial_room t (segment_of t (Shared id)) ≤ objects) w.is serials)))

  pub book_stands : (exits events : ℕ) (seat : JournalValue) → seat ≡ empty_journal world.table → exit_room world.trace ≤ exits → event_room world.trace ≤ events → BookKeeps world.trace world.table (opened setup exits events events seat)
  book_stands exits events seat is entries enough =
      subst (λ s. BookKeeps world.trace world.table (opened setup exits events events s)) (sym is)
      (subst (λ t. BookKeeps t world.table (opened setup exits events events (empty_journal world.table))) (sym w.is)
      (opened_book_keeps setup world.trace.operations world.trace.order world.table rules_made exits events (subst (λ t. exit_room t ≤ exits) w.is entries) (subst (λ t. event_room t ≤ events) w.is enough)))

  pub setup_procs : length setup.procs.items ≡ process_count world.trace
  setup_procs = sym (ap process_count w.is)

  pub setup_shared : setup.shared ≡ world.trace.shared_heaps
  setup_shared = sym (ap (λ (t : Trace). t.shared_heaps) w.is)

  pub setup_limits : setup.limits.items ≡ world.trace.limits
  setup_limits = sym (ap (λ (t : Trace). t.limits) w.is)

  pub setup_directory : setup.dir_fields ≡ world.trace.dir_fields
  setup_directory = sym (ap (λ (t : Trace). t.dir_fields) w.is)
