-- The pieces of a collection of a process's heap keep what the locks ask.
use Rattle.std.proofs.Common.{◌≡◌, ◌<◌, ◌-◌, ◌^◌, ◌≤◌, ◌++◌, refl, sym, ap, ap₂, ◌∙◌, subst, List, [], ◌∷◌, length, append-nil, arith}
use Rattle.k_types.specs.declared.event.Event.{Event}
use Rattle.k_types.specs.declared.event.Event.TheVariants.{Done, Ended}
use Rattle.k_types.specs.declared.event.Reply.TheVariants.{Done as DoneReply}
use Rattle.k_types.specs.declared.names.CellPhase.TheVariants.{Begun, Marked}
use Rattle.k_types.specs.declared.names.Heap.TheVariants.{User}
use Rattle.k_types.specs.declared.names.Pid.{Pid}
use Rattle.k_types.specs.declared.op.Op.{Op}
use Rattle.k_types.specs.declared.op.Op.TheVariants.{Collect}
use Rattle.k_types.specs.Agree.{CellValue}
use Rattle.k_types.specs.Steps.{done_by}
use Rattle.k_types.specs.Trace.{operations_of}
use Rattle.k_laws.specs.Counts.{stores_in}
use Rattle.k_laws.proofs.Dones.{done_count}
use Rattle.k_laws.specs.PartUpdates.{done_in}
use Rattle.k_laws.proofs.Histories.{done_append}
use Rattle.k_mark.specs.declared.sweeping.Swept.{Swept}
use Rattle.k_agree.specs.Agreement.{Agrees}
use Rattle.k_agree.specs.Marking.{marked}
use Rattle.k_agree.specs.Meeting.{Fits}
use Rattle.k_agree.proofs.Meetings.{meeting}
use Rattle.k_process.specs.Bodies.{bodies_of}
use Rattle.k_process.specs.k_book.Books.{BookRecord}
use Rattle.k_process.specs.k_cell.Changes.{with_black_alone}
use Rattle.k_process.specs.k_heap.Heaps.{HeapRecord, own_segment}
use Rattle.k_collect.specs.Begun.{HasAppended, HasBegunHeap}
use Rattle.k_collect.proofs.Sizes.{few_held}
use Rattle.k_collect.specs.Collecting.{CanBeginHeap, CanEndHeap, HasFewObjects}
use Rattle.k_collect.specs.Ended.{HasEndedHeap}
use Rattle.k_collect.specs.Marking.{CanMark, HasMarkedOn}
use Rattle.k_collect.specs.SweptAlone.{CanEndSwept, CanSweepAlone, HasSweptAlone}
use Rattle.k_collect.proofs.Ends.{ended_since}
use Rattle.k_process.specs.Keeping.{BookKeeps, CanGive, HasHeapRooms, operations_left}
use Rattle.k_process.proofs.CanDo.{done_of, event_left, heap_stands}
use Rattle.k_process.specs.declared.process.Process.{Process}
use Rattle.k_process.specs.Worlds.{WorldValue}
use Rattle.k_operate.specs.Collecting.{CanEndCollection, Collects, HasBegunCollection, HasEndedCollection, HasMarkedCollection, HasSameLeft, HasSweptCollection, IsNextAndSettled}
use Rattle.k_operate.specs.Steps.{HasDoneAlone}
use Rattle.k_operate.specs.Adding.{AddsEnd, AddsOperation, known_to}
use Rattle.k_operate.proofs.Added.{adds_known, adds_with_end}
use Rattle.k_operate.proofs.Appended.{book_keeps_on, heap_keeps_by, in_turn, journal_short, left_by_done, open_once_met, room_for_end}

-- the operation that comes next has room for its event
pub room_for_next : (world : WorldValue) (p : Process) (b : BookRecord) (op : Op) → IsNextAndSettled world p b op → Fits b.journal p.cell.note → length b.journal.list < b.event_room
room_for_next world p b op n fits = event_left world.trace world.table p.cell n.pair.process.cell op n.next.rest n.next.left b n.pair.book n.settled n.next.lives fits

-- the beginning
module _ (world : WorldValue) (p : Process) (b : BookRecord) (n : IsNextAndSettled world p b Collect) where
  pub can_begin : CanBeginHeap world.trace p.cell b
  can_begin = record {
    book_stands = n.pair.book.stands;
    heap_stands = heap_stands world.trace world.table p.cell n.pair.process.cell Collect n.next.rest n.next.left b n.pair.book n.settled n.next.lives;
    room = λ fits. room_for_next world p b Collect n fits;
  }

  module _ (c : HeapRecord) (l : BookRecord) (event : Event) (s : HasBegunHeap world.trace p.cell c b l event) where
    journal_then : l.journal.list ≡ b.journal.list ++ Done p.cell.pid Collect DoneReply ∷ []
    journal_then = s.appended.journal ∙ ap (λ e. b.journal.list ++ e ∷ []) s.event_is

    same_pid : c.pid ≡ p.cell.pid
    same_pid = ap (λ (x : HeapRecord). x.pid) s.heap_goes_on.cell_is

    book_begun : BookKeeps world.trace world.table l
    book_begun = subst (λ e. HasAppended world.trace b l e → BookKeeps world.trace world.table l) (sym s.event_is)
        (λ a. book_keeps_on world.trace world.table b l (Done p.cell.pid Collect DoneReply) n.pair.book a
        (in_turn world.trace world.table p.cell c b l Collect DoneReply n.next.rest n.pair.process.cell n.pair.book n.next.left s.heap_goes_on.agrees same_pid s.heap_goes_on.met.list s.heap_goes_on.settled journal_then s.done) refl)
        s.appended

    left_then : operations_left world.trace c ≡ n.next.rest
    left_then = left_by_done world.trace p.cell c Collect n.next.rest n.next.left same_pid s.done

    process_begun : Collects world Begun (record p { cell = c })
    process_begun = record {
      rules = n.pair.process.cell.rules;
      agrees = s.heap_goes_on.agrees;
      table = s.heap_goes_on.table ∙ book_begun.table;
      settled = s.heap_goes_on.settled;
      in_phase = s.heap_goes_on.in_phase;
      short =
          let few = journal_short world.trace l book_begun.stands book_begun.follows.operations in
          let same = ap length s.heap_goes_on.met.list in
          omega (arith, few, same);
      bodies =
          ap (λ (x : HeapRecord). x.bodies) s.heap_goes_on.cell_is ∙ n.pair.process.cell.bodies ∙ ap (bodies_of world.trace.types) n.next.left
          ∙ ap (bodies_of world.trace.types) (sym left_then);
      exits = subst (λ (x : HeapRecord). stores_in (operations_of world.trace x.pid.0) ≤ x.exit_room) (sym s.heap_goes_on.cell_is) n.pair.process.cell.rooms.exits;
      serials = subst (λ (x : HeapRecord). CanGive world.trace x.serial_rooms (own_segment x.pid)) (sym s.heap_goes_on.cell_is) (n.pair.process.cell.rooms.serials n.next.lives);
      tail = subst (λ (x : HeapRecord). length (operations_of world.trace x.pid.0) ≤ x.tail_room) (sym s.heap_goes_on.cell_is) n.pair.process.cell.rooms.tail;
      operations = n.pair.process.operations ∙ ap (λ (x : HeapRecord). operations_of world.trace x.pid.0) (sym s.heap_goes_on.cell_is);
    }

    pub has_begun : HasBegunCollection world p (record p { cell = c }) b l
    has_begun = record {
      process = process_begun;
      book = book_begun;
      done = record { pid = same_pid; left = n.next.left ∙ ap (λ (ops : List Op). Collect ∷ ops) (sym left_then) };
      events = record { said = DoneReply; new_is = journal_then };
    }

-- the marking
module _ (world : WorldValue) (p : Process) (h : Collects world Begun p) where
  pub can_mark : CanMark world.trace (User p.cell.pid) p.cell.note p.cell.value
  can_mark = record { keeps = h.rules; agrees = h.agrees; begun = h.in_phase }

  module _ (c : HeapRecord) (is : c ≡ record p.cell { value = c.value }) (m : HasMarkedOn world.trace (User p.cell.pid) p.cell.note p.cell.value c.value) where
    marked_is : c ≡ record p.cell { value = marked c.value.black c.value.black_exits p.cell.value }
    marked_is = is ∙ ap (λ (v : CellValue). record p.cell { value = v }) m.rest

    same_left : HasSameLeft world.trace p.cell c
    same_left = record { pid = ap (λ (x : HeapRecord). x.pid) is; left = ap (operations_left world.trace) marked_is }

    pub has_marked : HasMarkedCollection world p (record p { cell = c })
    has_marked = record {
      process = record {
        rules = h.rules;
        agrees = subst (λ (x : HeapRecord). Agrees world.trace (User x.pid) x.note c.value) (sym is) m.agrees;
        table = ap (λ (x : HeapRecord). x.note.table) is ∙ h.table;
        settled = ap (λ (v : CellValue). v.tail) m.rest ∙ h.settled;
        in_phase = m.phase;
        short = subst (λ (x : HeapRecord). length x.note.list < 2 ^ 32 - 1) (sym is) h.short;
        bodies = ap (λ (x : HeapRecord). x.bodies) is ∙ h.bodies ∙ ap (bodies_of world.trace.types) (sym same_left.left);
        exits = subst (λ (x : HeapRecord). stores_in (operations_of world.trace x.pid.0) ≤ x.exit_room) (sym is) h.exits;
        serials = subst (λ (x : HeapRecord). CanGive world.trace x.serial_rooms (own_segment x.pid)) (sym is) h.serials;
        tail = subst (λ (x : HeapRecord). length (operations_of world.trace x.pid.0) ≤ x.tail_room) (sym is) h.tail;
        operations = h.operations ∙ ap (λ (x : HeapRecord). operations_of world.trace x.pid.0) (sym is);
      };
      same = same_left;
    }

-- the sweep
module _ (world : WorldValue) (p : Process) (h : Collects world Marked p) where
  few_seen : HasFewObjects p.cell.value
  few_seen = let none = ap length h.settled in let short = h.short in few_held world.trace (User p.cell.pid) p.cell.note p.cell.value h.rules h.agrees (omega (arith, none, short))

  pub can_sweep : CanSweepAlone world.trace (User p.cell.pid) p.cell.note p.cell.value
  can_sweep = record {
    keeps = h.rules;
    agrees = h.agrees;
    marked = h.in_phase;
    few = few_seen;
    short = let few = h.short in let none = ap length h.settled in omega (arith, few, none);
  }

  pub has_swept : (c : HeapRecord) (freed : Swept) → HasSweptAlone p.cell c freed → HasSweptCollection world p (record p { cell = c }) freed
  has_swept c freed s = record {
    process = record { before = p.cell; process = h; swept = s };
    same = record { pid = ap (λ (x : HeapRecord). x.pid) s.cell_is; left = ap (operations_left world.trace) s.cell_is };
  }

-- the end, of a cell that was not swept yet
module _ (world : WorldValue) (p : Process) (b : BookRecord) (h : Collects world Marked p) (k : BookKeeps world.trace world.table b) where
  pub can_end : CanEndHeap world.trace p.cell b
  can_end = record {
    book_stands = k.stands;
    collects = record { agrees = h.agrees; table = h.table ∙ sym k.table; settled = h.settled; in_phase = h.in_phase };
    room = λ fits. room_for_end world.trace b (User p.cell.pid) k.stands k.follows.operations k.events (open_once_met world.trace b (User p.cell.pid) p.cell.note p.cell.value k.stands h.agrees h.settled h.in_phase fits);
    few = λ fits. few_seen world p h;
  }

  module _ (fits : Fits b.journal p.cell.note) (c : HeapRecord) (l : BookRecord) (event : Event) (s : HasEndedHeap world.trace p.cell c b l event) where
    abbrev end : Event
    end = Ended (User p.cell.pid) s.objects s.bytes s.exits s.shares

    book_ended : BookKeeps world.trace world.table l
    book_ended = subst (λ e. HasAppended world.trace b l e → BookKeeps world.trace world.table l) (sym s.event_is)
        (λ a. book_keeps_on world.trace world.table b l end k a tt refl) s.appended

    pid_kept : c.pid ≡ p.cell.pid
    pid_kept = ap (λ (x : HeapRecord). x.pid) s.heap_goes_on.cell_is

    -- the end of the collection does no operation
    done_kept : done_in c.value.process ≡ done_in p.cell.value.process
    done_kept =
        let after = done_of world.trace (User c.pid) c.note c.value s.heap_goes_on.agrees p.cell.pid (ap (λ (q : Pid). User q) pid_kept) in
        let count = done_count world.trace p.cell.pid.0 (c.note.list ++ c.value.tail) s.heap_goes_on.agrees.legal in
        let before = done_of world.trace (User p.cell.pid) p.cell.note p.cell.value h.agrees p.cell.pid refl in
        let counted = done_count world.trace p.cell.pid.0 (p.cell.note.list ++ p.cell.value.tail) h.agrees.legal in
        let whole : c.note.list ++ c.value.tail ≡ b.journal.list ++ end ∷ [] =
        ap₂ (λ xs ys. xs ++ ys) s.heap_goes_on.met.list s.heap_goes_on.settled ∙ append-nil l.journal.list ∙ s.appended.journal ∙ ap (λ e. b.journal.list ++ e ∷ []) s.event_is in
        let same : done_by p.cell.pid.0 (c.note.list ++ c.value.tail) ≡ done_by p.cell.pid.0 b.journal.list =
        ap (done_by p.cell.pid.0) whole ∙ done_append p.cell.pid.0 b.journal.list (end ∷ []) ∙ append-nil (done_by p.cell.pid.0 b.journal.list) in
        let knew : p.cell.note.list ++ p.cell.value.tail ≡ p.cell.note.list = ap (λ ys. p.cell.note.list ++ ys) h.settled ∙ append-nil p.cell.note.list in
        let since : done_by p.cell.pid.0 b.journal.list ≡ done_by p.cell.pid.0 p.cell.note.list =
        (meeting world.trace b.journal b.value (User p.cell.pid) p.cell.note p.cell.value h.agrees k.stands.agrees fits).done p.cell.pid.0 refl in
        let lengths = ap length same in
        let knows = ap (λ xs. length (done_by p.cell.pid.0 xs)) knew in
        let sinces = ap length since in
        omega (arith, after, count, before, counted, lengths, knows, sinces)

    left_kept : operations_left world.trace c ≡ operations_left world.trace p.cell
    left_kept = ap₂ (λ n (q : Pid). Rattle.std.proofs.Common.drop n (operations_of world.trace q.0)) done_kept pid_kept

    pub has_ended : HasEndedCollection world p (record p { cell = c }) b l
    has_ended = record {
      pair = record {
        process = record {
          cell = heap_keeps_by world.trace world.table c l book_ended s.heap_goes_on.agrees s.heap_goes_on.table s.heap_goes_on.in_phase s.heap_goes_on.met.list s.heap_goes_on.settled
              (ap (λ (x : HeapRecord). x.bodies) s.heap_goes_on.cell_is ∙ h.bodies ∙ ap (bodies_of world.trace.types) (sym left_kept))
              (subst (HasHeapRooms world.trace) (sym s.heap_goes_on.cell_is) (record { exits = h.exits; serials = λ _. h.serials; tail = h.tail }));
          operations = h.operations ∙ ap (λ (x : HeapRecord). operations_of world.trace x.pid.0) (sym s.heap_goes_on.cell_is);
        };
        book = book_ended;
      };
      settled = s.heap_goes_on.settled;
      same = record { pid = pid_kept; left = left_kept };
      events = record { objects = s.objects; bytes = s.bytes; exits = s.exits; shares = s.shares; new_is = s.appended.journal ∙ ap (λ e. b.journal.list ++ e ∷ []) s.event_is };
    }

-- the end after the sweep
module _ (world : WorldValue) (p : Process) (b : BookRecord) (freed : Swept) (n : CanEndCollection world p b freed) where
  -- the process as it was before the sweep
  abbrev marked_one : Process
  marked_one = record p { cell = n.process.before }

  pub can_end_swept : CanEndSwept world.trace p.cell b freed
  can_end_swept = record { before = n.process.before; can = can_end world marked_one b n.process.process n.book; swept = n.process.swept }

  left_swept : HasSameLeft world.trace p.cell n.process.before
  left_swept = record {
    pid = sym (ap (λ (x : HeapRecord). x.pid) n.process.swept.cell_is);
    left = sym (ap (operations_left world.trace) n.process.swept.cell_is);
  }

  module _ (c : HeapRecord) (l : BookRecord) (event : Event) (s : HasEndedHeap world.trace p.cell c b l event) (fits : Fits b.journal p.cell.note) where
    ended_marked : HasEndedHeap world.trace n.process.before c b l event
    ended_marked =
        ended_since world.trace n.process.before c n.process.before.note n.process.before.note (with_black_alone n.process.before.value) n.process.before.value b l event
        (subst (λ (x : HeapRecord). HasEndedHeap world.trace x c b l event) n.process.swept.cell_is s)

    ends_marked : HasEndedCollection world marked_one (record p { cell = c }) b l
    ends_marked = has_ended world marked_one b n.process.process n.book (subst (λ (x : HeapRecord). Fits b.journal x.note) n.process.swept.cell_is fits) c l event ended_marked

    pub has_ended_swept : HasEndedCollection world p (record p { cell = c }) b l
    has_ended_swept = record {
      pair = ends_marked.pair;
      settled = ends_marked.settled;
      same = record { pid = ends_marked.same.pid ∙ left_swept.pid; left = ends_marked.same.left ∙ left_swept.left };
      events = subst (λ (x : Pid). AddsEnd (User x) b.journal.list l.journal.list) left_swept.pid ends_marked.events;
    }

-- from the beginning to the end
module _ (world : WorldValue) (p q r t s : Process) (freed : Swept) (b m l : BookRecord) (begun : HasBegunCollection world p q b m) (marks : HasMarkedCollection world q r)
    (sweeps : HasSweptCollection world r t freed) (ends : HasEndedCollection world t s m l) where
  pub collected : HasDoneAlone world Collect p s l
  collected = record {
    pair = ends.pair;
    done = record {
      pid = ends.same.pid ∙ sweeps.same.pid ∙ marks.same.pid ∙ begun.done.pid;
      left = begun.done.left ∙ ap (λ (ops : List Op). Collect ∷ ops) (sym (ends.same.left ∙ sweeps.same.left ∙ marks.same.left));
    };
    settled = ends.settled;
  }

  pub collected_adds : p.cell.value.tail ≡ [] → AddsOperation world.trace p.cell.pid Collect (known_to p b) (known_to s l)
  collected_adds none =
      adds_known world.trace Collect p.cell.pid p s b l none ends.settled
      (adds_with_end world.trace p.cell.pid Collect (User p.cell.pid) b.journal.list b.journal.list m.journal.list l.journal.list refl (sym (append-nil b.journal.list)) begun.events
      (subst (λ (x : Pid). AddsEnd (User x) m.journal.list l.journal.list) (sweeps.same.pid ∙ marks.same.pid ∙ begun.done.pid) ends.events))
