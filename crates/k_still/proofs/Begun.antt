-- Cells that are made one after the other.
use Rattle.std.proofs.Common.{◌≡◌, ℕ, suc, ◌+◌, ◌<◌, ◌≤◌, sym, ap, ◌∙◌, subst, List, [], ◌∷◌, ◌++◌, length, Some, slice_get, Vec, arith}
use Rattle.std.specs.Global.{Global}
use Rattle.std.specs.declared.collections.VecDeque.{VecDeque}
use Rattle.std.proofs.lemmas.List.{length_push}
use Rattle.std.proofs.lemmas.Option.{slice_get_within}
use Rattle.k_types.specs.declared.names.Heap.TheVariants.{Shared}
use Rattle.k_types.specs.declared.names.Pid.{Pid}
use Rattle.k_types.specs.declared.names.SharedId.{SharedId}
use Rattle.k_types.specs.declared.op.Op.{Op}
use Rattle.k_types.specs.declared.setup.Setup.{Setup}
use Rattle.k_types.specs.Trace.{Trace, operations_of, process_count, segment_count, segment_of}
use Rattle.k_agree.specs.Rooms.{serial_room}
use Rattle.k_process.specs.Bodies.{bodies_of}
use Rattle.k_laws.specs.Counts.{stores_in}
use Rattle.k_cell.specs.Holdings.{HoldingsValue}
use Rattle.k_heap.specs.declared.heap.CellRooms.{CellRooms}
use Rattle.k_heap.specs.Heaps.{HeapRecord, opened_heap}
use Rattle.k_kernel.specs.Kernels.{opened_kernel}
use Rattle.k_process.specs.Keeping.{HeapKeeps, KernelKeeps, SharedKeeps}
use Rattle.k_shared.specs.SharedHeaps.{SharedRecord, opened_shared}
use Rattle.k_space.specs.Objects.{BodyValue}
use Rattle.k_tie.specs.Values.{NoteValue, blank_note}
use Rattle.k_still.specs.declared.beginning.Beginnings.{Beginnings}
use Rattle.k_process.specs.declared.process.Process.{Process}
use Rattle.k_still.specs.Opening.{AreBeginnings, ArePending, ArePendingShared, CanBegin, CanOpenHeap, CanOpenKernel, CanOpenProcess, HasBegun, HasOpenedHeap, HasOpenedKernel, HaveOpened, ProcessBegins}
use Rattle.k_process.specs.BetweenSteps.{HeapsStand}
use Rattle.k_process.specs.Worlds.{WorldValue}
use Rattle.k_still.proofs.Stands.{heap_stands, kernel_stands, shared_stands}
use Rattle.k_process.proofs.Lists.{each_pushed}
use Rattle.k_still.proofs.InOrder.{each_first, each_rest}

-- the first of what is left is taken
module _ (world : WorldValue) (first : ℕ) (old new : Beginnings) (note : NoteValue) (objects : ℕ) (are : AreBeginnings world first old) (begun : HasBegun old new note objects) where
  pub note_is : note ≡ blank_note world.table first
  note_is =
      each_first (λ k (x : NoteValue). x ≡ blank_note world.table (first + k)) old.notes.items new.notes.items note begun.notes are.notes
      ∙ ap (blank_note world.table) (let e : first + 0 ≡ first = omega arith in e)

  pub objects_enough : serial_room world.trace first ≤ objects
  objects_enough =
      subst (λ n. serial_room world.trace n ≤ objects) (let e : first + 0 ≡ first = omega arith in e)
      (each_first (λ k room. serial_room world.trace (first + k) ≤ room) old.serials.items new.serials.items objects begun.serials are.serials)

  pub others_left : AreBeginnings world (first + 1) new
  others_left =
      let notes : length old.notes.items ≡ suc (length new.notes.items) = ap length begun.notes in
      let serials : length old.serials.items ≡ suc (length new.serials.items) = ap length begun.serials in
      record {
        same = omega (arith, are.same, notes, serials);
        all = omega (arith, are.all, notes);
        notes = λ k x found.
            each_rest (λ n (y : NoteValue). y ≡ blank_note world.table (first + n)) old.notes.items new.notes.items note begun.notes are.notes k x found
            ∙ ap (blank_note world.table) (let e : first + suc k ≡ first + 1 + k = omega arith in e);
        serials = λ k x found.
            subst (λ n. serial_room world.trace n ≤ x) (let e : first + suc k ≡ first + 1 + k = omega arith in e)
            (each_rest (λ n room. serial_room world.trace (first + n) ≤ room) old.serials.items new.serials.items objects begun.serials are.serials k x found);
      }

-- the kernel's segment has room for the directory's serial
pub first_serial : (trace : Trace) (objects : ℕ) → serial_room trace 0 ≤ objects → 1 ≤ objects
first_serial trace objects enough = omega (arith, enough)

-- while some segment is left
pub can_begin : (world : WorldValue) (first : ℕ) (b : Beginnings) → AreBeginnings world first b → first < segment_count world.trace → CanBegin b
can_begin world first b are some = record { same = are.same; some = omega (arith, are.all, some) }

module _ (world : WorldValue) (setup : Setup) where
  pub process_begins : (pid : Pid) (ops : Vec Op Global) (bodies : List BodyValue) (objects : ℕ) (note : NoteValue) (rooms : CellRooms) (cell : HeapRecord) →
      CanOpenProcess world setup pid ops.items bodies objects note → cell ≡ opened_heap setup pid bodies rooms note → objects ≤ rooms.objects → stores_in ops.items ≤ rooms.exits → length ops.items ≤ rooms.tail →
      ProcessBegins world (record { cell = cell; ops = ops }) × (cell.pid ≡ pid)
  process_begins pid ops bodies objects note rooms cell can is serials exits tail = (
    record {
      stands = record {
        cell =
            subst (HeapKeeps world.trace world.table) (sym is)
            (heap_stands world setup can.of pid bodies rooms note can.known can.is_note can.made
            (subst (λ own. stores_in own ≤ rooms.exits) can.operations exits)
            (omega (arith, can.enough, serials))
            (subst (λ own. length own ≤ rooms.tail) can.operations tail));
        operations = can.operations ∙ ap (λ (c : HeapRecord). operations_of world.trace c.pid.0) (sym is);
      };
      published = ap (λ (c : HeapRecord). c.value.tail) is;
    },
    ap (λ (c : HeapRecord). c.pid) is,
  )

  pub heap_opened : (id : SharedId) (exits : ℕ) (b new : Beginnings) (note : NoteValue) (objects : ℕ) (made : SharedRecord) → CanOpenHeap world setup id exits b → HasBegun b new note objects →
      made ≡ opened_shared setup id objects exits note → HasOpenedHeap world id made new
  heap_opened id exits b new note objects made can begun is =
      let seg = segment_of world.trace (Shared id) in
      record {
        keeps =
            subst (SharedKeeps world.trace world.table) (sym is)
            (shared_stands world setup can.of id objects exits note can.known (note_is world seg b new note objects can.beginnings begun) can.enough (objects_enough world seg b new note objects can.beginnings begun));
        same = ap (λ (s : SharedRecord). s.id) is;
        beginnings = others_left world seg b new note objects can.beginnings begun;
      }

  pub kernel_opened : (exits : ℕ) (b new : Beginnings) (note : NoteValue) (objects : ℕ) (made : HoldingsValue) → CanOpenKernel world setup exits b → HasBegun b new note objects →
      made ≡ opened_kernel setup objects exits note → HasOpenedKernel world made new
  kernel_opened exits b new note objects made can begun is = record {
    keeps =
        subst (KernelKeeps world.trace world.table) (sym is)
        (kernel_stands world setup can.of objects exits note (note_is world 0 b new note objects can.beginnings begun) can.enough (objects_enough world 0 b new note objects can.beginnings begun));
    beginnings = others_left world 0 b new note objects can.beginnings begun;
  }

  module _ (all ops : List (Vec Op Global)) (own : Vec Op Global) (stocks bodies : List (VecDeque BodyValue Global)) (stock : VecDeque BodyValue Global) (b : Beginnings) (made : List Process)
      (pending : ArePending world setup all stocks b made) (taken : all ≡ own ∷ ops) where
    fewer : length all ≡ suc (length ops)
    fewer = ap length taken

    pub process_can_begin : CanBegin b
    process_can_begin = can_begin world (1 + length made) b pending.beginnings (omega (arith, pending.count, fewer))

    module _ (stock_taken : stocks ≡ stock ∷ bodies) (new : Beginnings) (note : NoteValue) (objects : ℕ) (begun : HasBegun b new note objects) where
      pub process_can_open : (pid : Pid) → pid.0 ≡ length made → CanOpenProcess world setup pid own.items stock.items objects note
      process_can_open pid at =
          let place : length made + 0 ≡ pid.0 = omega (arith, at) in
          let seg : 1 + length made ≡ pid.0 + 1 = omega (arith, at) in
          record {
            of = pending.of;
            known = omega (arith, at, fewer, pending.count);
            operations =
                each_first (λ k (list : Vec Op Global). list.items ≡ operations_of world.trace (length made + k)) all ops own taken pending.own_operations
                ∙ ap (operations_of world.trace) place;
            made =
                each_first (λ k (list : VecDeque BodyValue Global). list.items ≡ bodies_of world.trace.types (operations_of world.trace (length made + k))) stocks bodies stock stock_taken pending.own_bodies
                ∙ ap (λ k. bodies_of world.trace.types (operations_of world.trace k)) place;
            enough = subst (λ n. serial_room world.trace n ≤ objects) seg (objects_enough world (1 + length made) b new note objects pending.beginnings begun);
            is_note = note_is world (1 + length made) b new note objects pending.beginnings begun ∙ ap (blank_note world.table) seg;
          }

      pub processes_go_on : (p : Process) → ProcessBegins world p → p.cell.pid.0 ≡ length made → ArePending world setup ops bodies new (made ++ p ∷ [])
      processes_go_on p begins pid =
          let more : length (made ++ p ∷ []) ≡ length made + 1 = length_push made p in
          let fewer_bodies : length stocks ≡ suc (length bodies) = ap length stock_taken in
          record {
            of = pending.of;
            own_operations = λ k list found.
                each_rest (λ n (xs : Vec Op Global). xs.items ≡ operations_of world.trace (length made + n)) all ops own taken pending.own_operations k list found
                ∙ ap (operations_of world.trace) (let e : length made + suc k ≡ length (made ++ p ∷ []) + k = omega (arith, more) in e);
            same = omega (arith, pending.same, fewer, fewer_bodies);
            own_bodies = λ k list found.
                each_rest (λ n (xs : VecDeque BodyValue Global). xs.items ≡ bodies_of world.trace.types (operations_of world.trace (length made + n))) stocks bodies stock stock_taken pending.own_bodies k list found
                ∙ ap (λ n. bodies_of world.trace.types (operations_of world.trace n)) (let e : length made + suc k ≡ length (made ++ p ∷ []) + k = omega (arith, more) in e);
            beginnings =
                subst (λ n. AreBeginnings world n new) (let e : 1 + length made + 1 ≡ 1 + length (made ++ p ∷ []) = omega (arith, more) in e)
                (others_left world (1 + length made) b new note objects pending.beginnings begun);
            count = omega (arith, pending.count, fewer, more);
            processes = each_pushed (λ k (q : Process). ProcessBegins world q × (q.cell.pid.0 ≡ k)) made p pending.processes (begins, pid);
          }

  pub processes_opened : (ops : List (Vec Op Global)) (bodies : List (VecDeque BodyValue Global)) (b : Beginnings) (made : List Process) → length ops ≡ 0 → ArePending world setup ops bodies b made →
      HaveOpened world b made
  processes_opened ops bodies b made none pending =
      let all : length made ≡ process_count world.trace = omega (arith, pending.count, none) in
      record {
        processes = record { count = all; each = λ k p found. (pending.processes k p found).0.stands; placed = λ k p found. (pending.processes k p found).1 };
        published = λ k p found. (pending.processes k p found).0.published;
        beginnings = subst (λ n. AreBeginnings world (1 + n) b) all pending.beginnings;
      }

  module _ (exits : List ℕ) (b : Beginnings) (made : List SharedRecord) (id : SharedId) (pending : ArePendingShared world setup exits b made) (at : id.0 ≡ length made) where
    seg_is : 1 + process_count world.trace + length made ≡ segment_of world.trace (Shared id)
    seg_is = omega (arith, at)

    pub heap_can_open : (room : ℕ) → slice_get exits id.0 ≡ Some room → CanOpenHeap world setup id room b
    heap_can_open room found = record {
      of = pending.of;
      known = omega (arith, slice_get_within exits id.0 room found, pending.rooms.count);
      enough = pending.rooms.each id.0 room found;
      beginnings = subst (λ n. AreBeginnings world n b) seg_is pending.beginnings;
    }

    pub heaps_go_on : (new : Beginnings) (s : SharedRecord) → HasOpenedHeap world id s new → ArePendingShared world setup exits new (made ++ s ∷ [])
    heaps_go_on new s opened = record {
      of = pending.of;
      rooms = pending.rooms;
      beginnings =
          subst (λ n. AreBeginnings world n new)
          (let e : segment_of world.trace (Shared id) + 1 ≡ 1 + process_count world.trace + length (made ++ s ∷ []) = omega (arith, sym seg_is, length_push made s) in e) opened.beginnings;
      heaps = each_pushed (λ k (t : SharedRecord). SharedKeeps world.trace world.table t × (t.id.0 ≡ k)) made s pending.heaps (opened.keeps, ap (λ (i : SharedId). i.0) opened.same ∙ at);
    }

  pub heaps_opened : (exits : List ℕ) (b : Beginnings) (made : List SharedRecord) → length made ≡ length exits → ArePendingShared world setup exits b made → HeapsStand world made
  heaps_opened exits b made all pending = record {
    count = all ∙ pending.rooms.count;
    each = λ k s found. (pending.heaps k s found).0;
    placed = λ k s found. (pending.heaps k s found).1;
  }
