-- The end of a process by another's operation keeps what the locks ask.
use Rattle.std.proofs.Common.{◌≡◌, ◌≢◌, ◌<◌, ◌≤◌, ◌++◌, ap₂, drop, length, not, false, refl, sym, ap, ◌∙◌, subst, List, [], ◌∷◌, append-nil, arith}
use Rattle.std.proofs.lemmas.Bool.{and_parts, false≢true}
use Rattle.k_types.specs.declared.event.Event.{Event}
use Rattle.k_types.specs.declared.names.Heap.TheVariants.{Kernel, User}
use Rattle.k_types.specs.declared.names.Pid.{Pid}
use Rattle.k_types.specs.declared.op.Op.{Op}
use Rattle.k_types.specs.declared.op.Op.TheVariants.{Kill}
use Rattle.k_types.specs.Agree.{book_shown_by}
use Rattle.k_types.specs.Cells.{Cell}
use Rattle.k_types.specs.Limits.{is_above}
use Rattle.k_types.specs.Trace.{operations_of, process_count, segment_count}
use Rattle.k_types.specs.Distinct.{AreDistinctNames}
use Rattle.k_types.proofs.Ancestors.{above_another}
use Rattle.k_laws.specs.Counts.{stores_in}
use Rattle.k_agree.specs.Rooms.{exit_room}
use Rattle.k_process.specs.Bodies.{bodies_of}
use Rattle.k_process.specs.k_book.Books.{BookRecord}
use Rattle.k_process.specs.k_cell.Holdings.{HoldingsValue}
use Rattle.k_process.specs.k_heap.Heaps.{HeapRecord, has_ended_in, own_segment}
use Rattle.k_own.specs.Killing.{CanKill, HasKilled}
use Rattle.k_process.specs.Keeping.{BookKeeps, CanGive, HeapKeeps, operations_left}
use Rattle.k_process.proofs.CanDo.{event_left, heap_stands}
use Rattle.k_agree.specs.Shown.{idle_part}
use Rattle.k_agree.proofs.Killing.{ends_by, never_one}
use Rattle.k_process.specs.declared.process.Process.{Process}
use Rattle.k_process.specs.BetweenSteps.{ComesNext}
use Rattle.k_process.specs.Worlds.{WorldValue}
use Rattle.k_laws.specs.Locals.{is_local_in}
use Rattle.k_laws.specs.Touches.{ends_other_in, other_cells_in}
use Rattle.k_own.specs.Reaching.{CanReach}
use Rattle.k_operate.specs.Adding.{AddsOperation, known_to}
use Rattle.k_operate.specs.Collecting.{HasSameLeft}
use Rattle.k_operate.specs.Killing.{CanEndOther, CanKillNow, HasDoneKill, known_to_both}
use Rattle.k_operate.specs.Readiness.{begins_or_ends}
use Rattle.k_operate.specs.Steps.{CanDoAlone, HasDoneAlone, HasPublishedAll, IsDueWith, PairStands, SparesOthers}
use Rattle.k_operate.proofs.Added.{stepped_adds}
use Rattle.k_operate.proofs.Appended.{gives_else, heap_keeps_by}
use Rattle.k_operate.proofs.Exited.{exits_fit}
use Rattle.k_operate.proofs.Since.{can_reach, next_since, pid_since}
use Rattle.k_operate.proofs.StepsKept.{done_alone}

-- nobody ends itself, so an operation that kills no other process reaches the end of none
pub reaches_no_end : (world : WorldValue) (p : Process) (b : BookRecord) (op : Op) (q : Pid) → PairStands world p b → SparesOthers p op →
    User q ∷ Kernel ∷ [] ≡ other_cells_in world.trace (book_shown_by b.value) (idle_part p.cell.value) p.cell.pid.0 op → ⊥
reaches_no_end world p b op q pair spares reached =
    let by = ends_by world.trace (book_shown_by b.value) p.cell.pid.0 q (idle_part p.cell.value) op (sym reached) in
    let same : q ≡ p.cell.pid = spares q by.0 in
    let above = (and_parts (is_above world.trace p.cell.pid.0 q.0) (not ((book_shown_by b.value).ended q.0)) by.1).0 in
    let known = subst (λ (r : Pid). r.0 < process_count world.trace) (sym same) pair.process.cell.agrees.there in
    above_another world.trace pair.book.stands.keeps.limits p.cell.pid.0 q.0 known above (ap (λ (r : Pid). r.0) (sym same))

-- the kill of a process that it ends
module _ (world : WorldValue) (p t : Process) (k : HoldingsValue) (b : BookRecord) (op : Op) (n : CanEndOther world p t k b op) where
  abbrev stands : BookKeeps world.trace world.table b
  stands = n.due.pair.book

  pub can_kill : AreDistinctNames t.cell.value.exits → AreDistinctNames k.value.exits → CanKill world.trace p.cell t.cell k b op
  can_kill distinct kernel_distinct = record {
    book_stands = stands.stands;
    heap_stands = heap_stands world.trace world.table p.cell n.due.pair.process.cell op n.due.next.rest n.due.next.left b stands n.due.settled n.due.next.lives;
    target_stands = record { agrees = n.target.cell.agrees; table = n.target.cell.table ∙ sym stands.table; settled = n.published; idle = n.target.cell.idle };
    kernel_stands = record { agrees = n.kernel.agrees; table = n.kernel.table ∙ sym stands.table; segment = refl; idle = n.kernel.idle };
    numbers = n.kernel.numbers;
    asks = n.asks;
    reaches = n.due.touches;
    room = λ own fits kernel_fits. record {
      events = event_left world.trace world.table p.cell n.due.pair.process.cell op n.due.next.rest n.due.next.left b stands n.due.settled n.due.next.lives own;
      exits = exits_fit world t.cell k b n.target.cell n.published n.kernel stands distinct kernel_distinct fits kernel_fits;
    };
  }

  module _ (c w : HeapRecord) (x : HoldingsValue) (l : BookRecord) (event : Event) (s : HasKilled world.trace p.cell c t.cell w k x b l op event) where
    own_done : HasDoneAlone world op p (record p { cell = c }) l
    own_done = done_alone world p b l op c event n.due.pair n.due.next s.own

    abbrev keeps : BookKeeps world.trace world.table l
    keeps = own_done.pair.book

    same_pid : w.pid ≡ t.cell.pid
    same_pid = ap (λ (y : HeapRecord). y.pid) s.ends.cell_is

    same_left : operations_left world.trace w ≡ operations_left world.trace t.cell
    same_left = ap₂ (λ d (q : Pid). drop d (operations_of world.trace q.0)) s.same_done same_pid

    not_first : own_segment t.cell.pid ≢ 0
    not_first e = omega (arith, e)

    target_keeps : HeapKeeps world.trace world.table w
    target_keeps = heap_keeps_by world.trace world.table w l keeps s.ends.agrees s.ends.table s.ends.idle s.ends.met.list s.ends.settled
        (ap (λ (y : HeapRecord). y.bodies) s.ends.cell_is ∙ n.target.cell.bodies ∙ ap (bodies_of world.trace.types) (sym same_left))
        (record {
          exits = subst (λ (y : HeapRecord). stores_in (operations_of world.trace y.pid.0) ≤ y.exit_room) (sym s.ends.cell_is) n.target.cell.rooms.exits;
          serials = λ lives. absurd (false≢true (sym lives ∙ s.ends.ended));
          tail = subst (λ (y : HeapRecord). length (operations_of world.trace y.pid.0) ≤ y.tail_room) (sym s.ends.cell_is) n.target.cell.rooms.tail;
        })

    pub has_killed : HasDoneKill world op p (record p { cell = c }) t (record t { cell = w }) x l
    has_killed = record {
      own = own_done;
      kernel = record {
        rules = n.kernel.rules;
        agrees = s.ends.kernel_agrees;
        table = s.ends.kernel_table ∙ keeps.table;
        idle = s.ends.kernel_idle;
        exits = subst (λ (y : HoldingsValue). exit_room world.trace ≤ y.exit_room) (sym s.ends.kernel_is) n.kernel.exits;
        serials = subst (λ (y : HoldingsValue). CanGive world.trace y.serial_rooms 0) (sym s.ends.kernel_is) (gives_else world.trace k.serial_rooms (own_segment t.cell.pid) _ not_first n.kernel.serials);
        numbers = subst (λ (y : HoldingsValue). segment_count world.trace ≤ y.bound) (sym s.ends.kernel_is) n.kernel.numbers;
      };
      target = record { cell = target_keeps; operations = n.target.operations ∙ ap (λ (q : Pid). operations_of world.trace q.0) (sym same_pid) };
      published = s.ends.settled;
      same = record { pid = same_pid; left = same_left };
      through = λ was. record { published = s.ends.settled; all = λ lives. absurd (false≢true (sym lives ∙ s.ends.ended)) };
    }

    pub kill_adds : AddsOperation world.trace p.cell.pid op (known_to p b) (known_to (record p { cell = c }) l)
    kill_adds = stepped_adds world.trace op p (record p { cell = c }) b l event n.due.steps n.due.settled s.own

-- any kill, once both have published
module _ (world : WorldValue) (p t : Process) (k : HoldingsValue) (b : BookRecord) (op : Op) (n : CanKillNow world p t k b op)
    (p1 : Process) (b1 : BookRecord) (first : HasPublishedAll world p p1 b b1) (t1 : Process) (b2 : BookRecord) (second : HasPublishedAll world t t1 b1 b2) where
  pair_then : PairStands world p1 b2
  pair_then = record { process = first.pair.process; book = second.pair.book }

  next_then : ComesNext world.trace p1.cell op
  next_then = next_since world p p1 b1 op first n.next

  pub reaches : CanReach world.trace p1.cell b2 op
  reaches = can_reach world p1 b2 op pair_then next_then

  same_target : t1.cell.pid ≡ t.cell.pid
  same_target = ap (λ (c : HeapRecord). c.pid) second.cell_is

  asks_then : op ≡ Kill t1.cell.pid
  asks_then = n.asks ∙ ap Kill (sym same_target)

  outside : is_local_in (idle_part p1.cell.value) p1.cell.pid.0 op ≡ false
  unfolding is_local_in
  outside = ap (is_local_in (idle_part p1.cell.value) p1.cell.pid.0) n.asks

  steps : begins_or_ends op ≡ false
  steps = ap begins_or_ends n.asks

  due_with : (cells : List Cell) → cells ≡ other_cells_in world.trace (book_shown_by b2.value) (idle_part p1.cell.value) p1.cell.pid.0 op → IsDueWith world p1 b2 op cells
  due_with cells reached = record { pair = pair_then; settled = first.settled; next = next_then; outside = outside; touches = sym reached; steps = steps }

  pub can_alone_now : [] ≡ other_cells_in world.trace (book_shown_by b2.value) (idle_part p1.cell.value) p1.cell.pid.0 op → CanDoAlone world p1 b2 op
  can_alone_now reached = due_with [] reached

  pub can_end : (q : Pid) → User q ∷ Kernel ∷ [] ≡ other_cells_in world.trace (book_shown_by b2.value) (idle_part p1.cell.value) p1.cell.pid.0 op → CanEndOther world p1 t1 k b2 op
  can_end q reached =
      let by = ends_by world.trace (book_shown_by b2.value) p1.cell.pid.0 q (idle_part p1.cell.value) op (sym reached) in
      let same : q ≡ t1.cell.pid = target_of (sym by.0 ∙ asks_then) in
      record {
        due = due_with (User t1.cell.pid ∷ Kernel ∷ []) (ap (λ (r : Pid). User r ∷ Kernel ∷ []) (sym same) ∙ reached);
        target = second.pair.process;
        published = second.settled;
        kernel = n.kernel;
        asks = asks_then;
      }
    where
      target_of : {a c : Pid} → Kill a ≡ Kill c → a ≡ c
      target_of e = cc e

  -- a kill does not reach one cell
  pub never_one_now : (cell : Cell) → cell ∷ [] ≡ other_cells_in world.trace (book_shown_by b2.value) (idle_part p1.cell.value) p1.cell.pid.0 op → ⊥
  unfolding other_cells_in
  never_one_now cell reached =
      never_one (ends_other_in world.trace (book_shown_by b2.value) p1.cell.pid.0 t.cell.pid.0) t.cell.pid cell
      (ap (other_cells_in world.trace (book_shown_by b2.value) (idle_part p1.cell.value) p1.cell.pid.0) (sym n.asks) ∙ sym reached)

  known_then : known_to p1 b2 ≡ known_to_both p t b
  known_then =
      ap (λ tail. b2.journal.list ++ tail) first.settled ∙ append-nil b2.journal.list ∙ second.journal
      ∙ ap (λ list. list ++ t.cell.value.tail) first.journal

  same_own : HasSameLeft world.trace p.cell p1.cell
  same_own = record { pid = pid_since world p p1 b1 op first n.next; left = ap (operations_left world.trace) first.cell_is }

  pub kill_adds_now : (new : List Event) → AddsOperation world.trace p1.cell.pid op (known_to p1 b2) new → AddsOperation world.trace p.cell.pid op (known_to_both p t b) new
  kill_adds_now new a =
      subst (λ old. AddsOperation world.trace p.cell.pid op old new) known_then
      (subst (λ (r : Pid). AddsOperation world.trace r op (known_to p1 b2) new) same_own.pid a)

  own_since : (q : Process) (l : BookRecord) → HasDoneAlone world op p1 q l → HasDoneAlone world op p q l
  own_since q l a = record {
    pair = a.pair;
    done = record { pid = a.done.pid ∙ same_own.pid; left = sym same_own.left ∙ a.done.left };
    settled = a.settled;
  }

  -- it ended the target
  pub ended_now : (q u : Process) (x : HoldingsValue) (l : BookRecord) → HasDoneKill world op p1 q t1 u x l → HasDoneKill world op p q t u x l
  ended_now q u x l a = record {
    own = own_since q l a.own;
    kernel = a.kernel;
    target = a.target;
    published = a.published;
    same = record { pid = a.same.pid ∙ same_target; left = a.same.left ∙ ap (operations_left world.trace) second.cell_is };
    through = λ was. a.through (record { published = second.settled; all = λ lives. ap (operations_left world.trace) second.cell_is ∙ was.all (sym (ap (λ (c : HeapRecord). has_ended_in c.value.process) second.cell_is) ∙ lives) });
  }

  -- or nobody
  pub spared_now : (q : Process) (l : BookRecord) → HasDoneAlone world op p1 q l → HasDoneKill world op p q t t1 k l
  spared_now q l a = record {
    own = own_since q l a;
    kernel = n.kernel;
    target = second.pair.process;
    published = second.settled;
    same = record { pid = same_target; left = ap (operations_left world.trace) second.cell_is };
    through = λ was. record { published = second.settled; all = λ lives. ap (operations_left world.trace) second.cell_is ∙ was.all (sym (ap (λ (c : HeapRecord). has_ended_in c.value.process) second.cell_is) ∙ lives) };
  }
