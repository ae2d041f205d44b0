-- The pieces of a collection of the kernel's heap keep what the locks ask.
use Rattle.std.proofs.Common.{◌≡◌, ◌-◌, ◌<◌, ◌^◌, ◌≤◌, ◌++◌, refl, sym, ap, ◌∙◌, subst, List, [], ◌∷◌, length, arith}
use Rattle.k_types.specs.declared.event.Event.{Event}
use Rattle.k_types.specs.declared.event.Event.TheVariants.{Done, Ended}
use Rattle.k_types.specs.declared.event.Reply.TheVariants.{Done as DoneReply}
use Rattle.k_types.specs.declared.names.CellPhase.TheVariants.{Begun, Marked}
use Rattle.k_types.specs.declared.names.Heap.TheVariants.{Kernel}
use Rattle.k_types.specs.declared.op.Op.{Op}
use Rattle.k_types.specs.declared.op.Op.TheVariants.{KCollect}
use Rattle.k_types.specs.Trace.{operations_of, segment_count}
use Rattle.k_mark.specs.declared.sweeping.Swept.{Swept}
use Rattle.k_agree.specs.Agreement.{Agrees}
use Rattle.k_agree.specs.Rooms.{exit_room}
use Rattle.k_process.specs.Bodies.{bodies_of}
use Rattle.k_process.specs.k_book.Books.{BookRecord}
use Rattle.k_process.specs.k_cell.Changes.{with_black_alone}
use Rattle.k_process.specs.k_cell.Holdings.{HoldingsValue}
use Rattle.k_process.specs.k_heap.Heaps.{HeapRecord}
use Rattle.k_collect.specs.Begun.{HasAppended, HasBegunKernel}
use Rattle.k_collect.proofs.Sizes.{few_held}
use Rattle.k_collect.specs.Collecting.{CanBeginKernel, CanEndKernel, HasFewObjects}
use Rattle.k_collect.specs.Ended.{HasEndedKernel}
use Rattle.k_collect.specs.Marking.{CanMark, HasMarkedOn}
use Rattle.k_collect.specs.SweptAlone.{CanEndSweptKernel, CanSweepAlone}
use Rattle.k_collect.proofs.Ends.{kernel_ended_since}
use Rattle.k_process.specs.Keeping.{BookKeeps, CanGive, HasHeapRooms, operations_left}
use Rattle.k_process.proofs.CanDo.{heap_stands}
use Rattle.k_process.specs.declared.process.Process.{Process}
use Rattle.k_process.specs.Worlds.{WorldValue}
use Rattle.k_operate.specs.Collecting.{CanBeginKernelCollection, CanEndKernelCollection, HasBegunKernelCollection, HasEndedKernelCollection, KernelCollects}
use Rattle.k_operate.proofs.Appended.{book_keeps_on, heap_keeps_by, in_turn, journal_short, left_by_done, open_once_met, room_for_end}
use Rattle.k_operate.proofs.Collected.{room_for_next}

-- the beginning
module _ (world : WorldValue) (p : Process) (k : HoldingsValue) (b : BookRecord) (n : CanBeginKernelCollection world p k b) where
  pub can_begin_kernel : CanBeginKernel world.trace p.cell k b
  can_begin_kernel = record {
    book_stands = n.own.pair.book.stands;
    heap_stands = heap_stands world.trace world.table p.cell n.own.pair.process.cell KCollect n.own.next.rest n.own.next.left b n.own.pair.book n.own.settled n.own.next.lives;
    kernel_stands = record { agrees = n.kernel.agrees; table = n.kernel.table ∙ sym n.own.pair.book.table; segment = refl; idle = n.kernel.idle };
    orphans = n.orphans;
    room = λ fits kernel_fits. room_for_next world p b KCollect n.own fits;
  }

  module _ (c : HeapRecord) (x : HoldingsValue) (l : BookRecord) (event : Event) (s : HasBegunKernel world.trace p.cell c k x b l event) where
    journal_then : l.journal.list ≡ b.journal.list ++ Done p.cell.pid KCollect DoneReply ∷ []
    journal_then = s.appended.journal ∙ ap (λ e. b.journal.list ++ e ∷ []) s.event_is

    same_pid : c.pid ≡ p.cell.pid
    same_pid = ap (λ (y : HeapRecord). y.pid) s.heap_goes_on.cell_is

    book_begun : BookKeeps world.trace world.table l
    book_begun = subst (λ e. HasAppended world.trace b l e → BookKeeps world.trace world.table l) (sym s.event_is)
        (λ a. book_keeps_on world.trace world.table b l (Done p.cell.pid KCollect DoneReply) n.own.pair.book a
        (in_turn world.trace world.table p.cell c b l KCollect DoneReply n.own.next.rest n.own.pair.process.cell n.own.pair.book n.own.next.left s.heap_goes_on.agrees same_pid s.heap_goes_on.met.list s.heap_goes_on.settled journal_then s.done) refl)
        s.appended

    left_then : operations_left world.trace c ≡ n.own.next.rest
    left_then = left_by_done world.trace p.cell c KCollect n.own.next.rest n.own.next.left same_pid s.done

    kernel_begun : KernelCollects world Begun x
    kernel_begun = record {
      rules = n.kernel.rules;
      agrees = s.kernel_goes_on.agrees;
      table = s.kernel_goes_on.table ∙ book_begun.table;
      in_phase = s.kernel_goes_on.in_phase;
      short =
          let few = journal_short world.trace l book_begun.stands book_begun.follows.operations in
          let same = ap length s.kernel_goes_on.met.list in
          omega (arith, few, same);
      exits = subst (λ (y : HoldingsValue). exit_room world.trace ≤ y.exit_room) (sym s.kernel_goes_on.kernel_is) n.kernel.exits;
      serials = subst (λ (y : HoldingsValue). CanGive world.trace y.serial_rooms 0) (sym s.kernel_goes_on.kernel_is) n.kernel.serials;
      numbers = subst (λ (y : HoldingsValue). segment_count world.trace ≤ y.bound) (sym s.kernel_goes_on.kernel_is) n.kernel.numbers;
    }

    pub has_begun_kernel : HasBegunKernelCollection world p (record p { cell = c }) x b l
    has_begun_kernel = record {
      own = record {
        pair = record {
          process = record {
            cell = heap_keeps_by world.trace world.table c l book_begun s.heap_goes_on.agrees s.heap_goes_on.table s.heap_goes_on.in_phase s.heap_goes_on.met.list s.heap_goes_on.settled
                (ap (λ (y : HeapRecord). y.bodies) s.heap_goes_on.cell_is ∙ n.own.pair.process.cell.bodies ∙ ap (bodies_of world.trace.types) n.own.next.left ∙ ap (bodies_of world.trace.types) (sym left_then))
                (subst (HasHeapRooms world.trace) (sym s.heap_goes_on.cell_is) (record { exits = n.own.pair.process.cell.rooms.exits; serials = λ _. n.own.pair.process.cell.rooms.serials n.own.next.lives; tail = n.own.pair.process.cell.rooms.tail }));
            operations = n.own.pair.process.operations ∙ ap (λ (y : HeapRecord). operations_of world.trace y.pid.0) (sym s.heap_goes_on.cell_is);
          };
          book = book_begun;
        };
        done = record { pid = same_pid; left = n.own.next.left ∙ ap (λ (ops : List Op). KCollect ∷ ops) (sym left_then) };
        settled = s.heap_goes_on.settled;
      };
      kernel = kernel_begun;
      events = record { said = DoneReply; new_is = journal_then };
    }

-- the marking
module _ (world : WorldValue) (k : HoldingsValue) (h : KernelCollects world Begun k) where
  pub can_mark_kernel : CanMark world.trace Kernel k.note k.value
  can_mark_kernel = record { keeps = h.rules; agrees = h.agrees; begun = h.in_phase }

  pub has_marked_kernel : (x : HoldingsValue) → x ≡ record k { value = x.value } → HasMarkedOn world.trace Kernel k.note k.value x.value → KernelCollects world Marked x
  has_marked_kernel x is m = record {
    rules = h.rules;
    agrees = subst (λ (y : HoldingsValue). Agrees world.trace Kernel y.note x.value) (sym is) m.agrees;
    table = ap (λ (y : HoldingsValue). y.note.table) is ∙ h.table;
    in_phase = m.phase;
    short = subst (λ (y : HoldingsValue). length y.note.list < 2 ^ 32 - 1) (sym is) h.short;
    exits = subst (λ (y : HoldingsValue). exit_room world.trace ≤ y.exit_room) (sym is) h.exits;
    serials = subst (λ (y : HoldingsValue). CanGive world.trace y.serial_rooms 0) (sym is) h.serials;
    numbers = subst (λ (y : HoldingsValue). segment_count world.trace ≤ y.bound) (sym is) h.numbers;
  }

-- the sweep
module _ (world : WorldValue) (k : HoldingsValue) (h : KernelCollects world Marked k) where
  kernel_settled : k.value.tail ≡ []
  kernel_settled = h.agrees.tail

  pub kernel_few_seen : HasFewObjects k.value
  kernel_few_seen = let none = ap length kernel_settled in let short = h.short in few_held world.trace Kernel k.note k.value h.rules h.agrees (omega (arith, none, short))

  pub can_sweep_kernel : CanSweepAlone world.trace Kernel k.note k.value
  can_sweep_kernel = record {
    keeps = h.rules;
    agrees = h.agrees;
    marked = h.in_phase;
    few = kernel_few_seen;
    short =
        let none = ap length kernel_settled in
        let few = h.short in
        omega (arith, few, none);
  }

-- the end, of a cell that was not swept yet
module _ (world : WorldValue) (k : HoldingsValue) (b : BookRecord) (h : KernelCollects world Marked k) (keeps : BookKeeps world.trace world.table b) where
  can_end_unswept : CanEndKernel world.trace k b
  can_end_unswept = record {
    book_stands = keeps.stands;
    collects = record { agrees = h.agrees; table = h.table ∙ sym keeps.table; in_phase = h.in_phase };
    room = λ fits. room_for_end world.trace b Kernel keeps.stands keeps.follows.operations keeps.events (open_once_met world.trace b Kernel k.note k.value keeps.stands h.agrees h.agrees.tail h.in_phase fits);
    few = λ fits. kernel_few_seen world k h;
  }

  module _ (x : HoldingsValue) (l : BookRecord) (event : Event) (s : HasEndedKernel world.trace k x b l event) where
    book_ended : BookKeeps world.trace world.table l
    book_ended = subst (λ e. HasAppended world.trace b l e → BookKeeps world.trace world.table l) (sym s.event_is)
        (λ a. book_keeps_on world.trace world.table b l (Ended Kernel s.objects s.bytes s.exits 0) keeps a tt refl) s.appended

    ended_unswept : HasEndedKernelCollection world x b l
    ended_unswept = record {
      kernel = record {
        rules = h.rules;
        agrees = s.kernel_goes_on.agrees;
        table = s.kernel_goes_on.table ∙ book_ended.table;
        idle = s.kernel_goes_on.in_phase;
        exits = subst (λ (y : HoldingsValue). exit_room world.trace ≤ y.exit_room) (sym s.kernel_goes_on.kernel_is) h.exits;
        serials = subst (λ (y : HoldingsValue). CanGive world.trace y.serial_rooms 0) (sym s.kernel_goes_on.kernel_is) h.serials;
        numbers = subst (λ (y : HoldingsValue). segment_count world.trace ≤ y.bound) (sym s.kernel_goes_on.kernel_is) h.numbers;
      };
      book = book_ended;
      events = record { objects = s.objects; bytes = s.bytes; exits = s.exits; shares = 0; new_is = s.appended.journal ∙ ap (λ e. b.journal.list ++ e ∷ []) s.event_is };
    }

-- the end after the sweep
module _ (world : WorldValue) (k : HoldingsValue) (b : BookRecord) (freed : Swept) (n : CanEndKernelCollection world k b freed) where
  pub can_end_kernel : CanEndSweptKernel world.trace k b freed
  can_end_kernel = record { before = n.kernel.before; can = can_end_unswept world n.kernel.before b n.kernel.kernel n.book; swept = n.kernel.swept }

  pub has_ended_kernel : (x : HoldingsValue) (l : BookRecord) (event : Event) → HasEndedKernel world.trace k x b l event → HasEndedKernelCollection world x b l
  has_ended_kernel x l event s =
      ended_unswept world n.kernel.before b n.kernel.kernel n.book x l event
      (kernel_ended_since world.trace n.kernel.before x n.kernel.before.note n.kernel.before.note (with_black_alone n.kernel.before.value) n.kernel.before.value b l event
      (subst (λ (y : HoldingsValue). HasEndedKernel world.trace y x b l event) n.kernel.swept.kernel_is s))
