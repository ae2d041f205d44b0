-- The end of a process keeps what the locks ask.
use Rattle.std.proofs.Common.{◌≡◌, ◌≢◌, ◌+◌, ◌≤◌, refl, sym, ap, ◌∙◌, subst, List, [], ◌∷◌, length, arith}
use Rattle.std.proofs.lemmas.Bool.{false≢true}
use Rattle.k_types.specs.declared.event.Event.{Event}
use Rattle.k_types.specs.declared.event.Event.TheVariants.{Done}
use Rattle.k_types.specs.declared.event.Reply.TheVariants.{Done as DoneReply}
use Rattle.k_types.specs.declared.names.Heap.TheVariants.{Kernel, User}
use Rattle.k_types.specs.declared.op.Op.{Op}
use Rattle.k_types.specs.declared.op.Op.TheVariants.{Exit}
use Rattle.k_types.specs.Steps.{state_after}
use Rattle.k_types.specs.Trace.{operations_of, segment_count}
use Rattle.k_types.specs.Distinct.{AreDistinctNames}
use Rattle.k_laws.specs.Counts.{stores_in}
use Rattle.k_agree.specs.Meeting.{Fits}
use Rattle.k_agree.specs.Rooms.{exit_room}
use Rattle.k_agree.proofs.AtTheEnd.{book_sound}
use Rattle.k_agree.proofs.Meetings.{meeting}
use Rattle.k_agree.proofs.WithinRooms.{fits_rooms}
use Rattle.k_process.specs.Bodies.{bodies_of}
use Rattle.k_process.specs.k_book.Books.{BookRecord}
use Rattle.k_process.specs.k_cell.Holdings.{HoldingsValue}
use Rattle.k_process.specs.k_heap.Heaps.{HeapRecord, own_segment}
use Rattle.k_collect.specs.Begun.{HasAppended}
use Rattle.k_own.specs.Exiting.{CanExit, HasExited}
use Rattle.k_process.specs.Keeping.{BookKeeps, CanGive, HeapKeeps, KernelKeeps, operations_left}
use Rattle.k_process.proofs.CanDo.{exits_many, heap_stands}
use Rattle.k_process.specs.declared.process.Process.{Process}
use Rattle.k_process.specs.Worlds.{WorldValue}
use Rattle.k_operate.specs.Collecting.{CanExitNow}
use Rattle.k_operate.specs.Steps.{HasDoneWithKernel}
use Rattle.k_operate.specs.Adding.{AddsOperation, known_to}
use Rattle.k_operate.proofs.Added.{adds_exit, adds_known}
use Rattle.k_operate.proofs.Appended.{book_keeps_on, gives_else, heap_keeps_by, in_turn, left_by_done}
use Rattle.k_operate.proofs.Collected.{room_for_next}
use Rattle.k_laws.proofs.AllExits.{exits_together}

-- the exit items of a process's heap fit beside the kernel's
pub exits_fit : (world : WorldValue) (c : HeapRecord) (k : HoldingsValue) (b : BookRecord) → HeapKeeps world.trace world.table c → c.value.tail ≡ [] → KernelKeeps world.trace world.table k → BookKeeps world.trace world.table b →
    AreDistinctNames c.value.exits → AreDistinctNames k.value.exits → Fits b.journal c.note → Fits b.journal k.note → length c.value.exits + length k.value.exits ≤ k.exit_room
exits_fit world c k b heap settled kernel_keeps keeps distinct kernel_distinct fits kernel_fits =
    let sound = book_sound world.trace b.journal b.value keeps.stands.keeps.limits keeps.stands.agrees in
    let own = (meeting world.trace b.journal b.value (User c.pid) c.note c.value heap.agrees keeps.stands.agrees fits).shows settled in
    let kernel = (meeting world.trace b.journal b.value Kernel k.note k.value kernel_keeps.agrees keeps.stands.agrees kernel_fits).shows kernel_keeps.agrees.tail in
    let many = exits_many world.trace (state_after world.trace b.journal.list) (User c.pid) c.value sound own distinct in
    let more = exits_many world.trace (state_after world.trace b.journal.list) Kernel k.value sound kernel kernel_distinct in
    let both = exits_together (state_after world.trace b.journal.list).exits c.pid.0 in
    let all = (fits_rooms world.trace b.journal.list keeps.stands.keeps keeps.stands.agrees.legal keeps.follows.operations).exits in
    let room = kernel_keeps.exits in
    omega (arith, many, more, both, all, room)

-- the end of a process
module _ (world : WorldValue) (p : Process) (k : HoldingsValue) (b : BookRecord) (n : CanExitNow world p k b) where
  pub can_exit : AreDistinctNames p.cell.value.exits → AreDistinctNames k.value.exits → CanExit world.trace p.cell k b
  can_exit distinct kernel_distinct = record {
    book_stands = n.own.pair.book.stands;
    heap_stands = heap_stands world.trace world.table p.cell n.own.pair.process.cell Exit n.own.next.rest n.own.next.left b n.own.pair.book n.own.settled n.own.next.lives;
    kernel_stands = record { agrees = n.kernel.agrees; table = n.kernel.table ∙ sym n.own.pair.book.table; segment = refl; idle = n.kernel.idle };
    numbers = n.kernel.numbers;
    room = λ fits kernel_fits. record { events = room_for_next world p b Exit n.own fits; exits = exits_fit world p.cell k b n.own.pair.process.cell n.own.settled n.kernel n.own.pair.book distinct kernel_distinct fits kernel_fits };
  }

  module _ (c : HeapRecord) (x : HoldingsValue) (l : BookRecord) (event : Event) (s : HasExited world.trace p.cell c k x b l event) where
    exited : HasAppended world.trace b l (Done p.cell.pid Exit DoneReply)
    exited = subst (HasAppended world.trace b l) s.event_is (record { possible = s.possible; lawful = s.lawful; journal = s.journal; same_table = s.same_table; book_is = s.book_is; agrees = s.book_agrees })

    pid_kept : c.pid ≡ p.cell.pid
    pid_kept = ap (λ (y : HeapRecord). y.pid) s.ends.cell_is

    book_kept : BookKeeps world.trace world.table l
    book_kept = book_keeps_on world.trace world.table b l (Done p.cell.pid Exit DoneReply) n.own.pair.book exited
        (in_turn world.trace world.table p.cell c b l Exit DoneReply n.own.next.rest n.own.pair.process.cell n.own.pair.book n.own.next.left s.ends.agrees pid_kept s.ends.met.list s.ends.settled exited.journal s.done) refl

    left_then : operations_left world.trace c ≡ n.own.next.rest
    left_then = left_by_done world.trace p.cell c Exit n.own.next.rest n.own.next.left pid_kept s.done

    not_first : own_segment p.cell.pid ≢ 0
    not_first e = omega (arith, e)

    pub has_exited : HasDoneWithKernel world Exit p (record p { cell = c }) x l
    has_exited = record {
      own = record {
        pair = record {
          process = record {
            cell = heap_keeps_by world.trace world.table c l book_kept s.ends.agrees s.ends.table s.ends.idle s.ends.met.list s.ends.settled
                (ap (λ (y : HeapRecord). y.bodies) s.ends.cell_is ∙ n.own.pair.process.cell.bodies ∙ ap (bodies_of world.trace.types) n.own.next.left ∙ ap (bodies_of world.trace.types) (sym left_then))
                (record {
                  exits = subst (λ (y : HeapRecord). stores_in (operations_of world.trace y.pid.0) ≤ y.exit_room) (sym s.ends.cell_is) n.own.pair.process.cell.rooms.exits;
                  serials = λ lives. absurd (false≢true (sym lives ∙ s.ends.ended));
                  tail = subst (λ (y : HeapRecord). length (operations_of world.trace y.pid.0) ≤ y.tail_room) (sym s.ends.cell_is) n.own.pair.process.cell.rooms.tail;
                });
            operations = n.own.pair.process.operations ∙ ap (λ (y : HeapRecord). operations_of world.trace y.pid.0) (sym s.ends.cell_is);
          };
          book = book_kept;
        };
        done = record { pid = pid_kept; left = n.own.next.left ∙ ap (λ (ops : List Op). Exit ∷ ops) (sym left_then) };
        settled = s.ends.settled;
      };
      kernel = record {
        rules = n.kernel.rules;
        agrees = s.ends.kernel_agrees;
        table = s.ends.kernel_table ∙ book_kept.table;
        idle = s.ends.kernel_idle;
        exits = subst (λ (w : HoldingsValue). exit_room world.trace ≤ w.exit_room) (sym s.ends.kernel_is) n.kernel.exits;
        serials = subst (λ (w : HoldingsValue). CanGive world.trace w.serial_rooms 0) (sym s.ends.kernel_is) (gives_else world.trace k.serial_rooms (own_segment p.cell.pid) _ not_first n.kernel.serials);
        numbers = subst (λ (w : HoldingsValue). segment_count world.trace ≤ w.bound) (sym s.ends.kernel_is) n.kernel.numbers;
      };
    }

    pub exit_adds : AddsOperation world.trace p.cell.pid Exit (known_to p b) (known_to (record p { cell = c }) l)
    exit_adds =
        adds_known world.trace Exit p.cell.pid p (record p { cell = c }) b l n.own.settled s.ends.settled
        (adds_exit world.trace p.cell.pid b.journal.list l.journal.list (record { said = DoneReply; new_is = exited.journal }))
