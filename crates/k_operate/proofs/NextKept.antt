-- The next operation of a process, with whatever it touches.
use Rattle.std.proofs.Common.{◌≡◌, ◌++◌, sym, ap, ◌∙◌, subst, List, [], ◌∷◌, set, Bool, true, false, Some, slice_get}
use Rattle.k_types.specs.declared.names.Heap.TheVariants.{Kernel, Shared}
use Rattle.k_types.specs.declared.event.Event.{Event}
use Rattle.k_types.specs.declared.names.Pid.{Pid}
use Rattle.k_types.specs.declared.names.SharedId.{SharedId}
use Rattle.k_types.specs.declared.op.Op.{Op}
use Rattle.k_types.specs.Agree.{book_shown_by}
use Rattle.k_types.specs.Cells.{Cell}
use Rattle.k_laws.specs.Locals.{is_local_in}
use Rattle.k_laws.specs.Touches.{other_cells_in}
use Rattle.k_agree.specs.Shown.{idle_part}
use Rattle.k_process.specs.k_book.Books.{BookRecord}
use Rattle.k_process.specs.k_cell.Holdings.{HoldingsValue}
use Rattle.k_process.specs.k_heap.Heaps.{HeapRecord}
use Rattle.k_process.specs.k_shared.SharedHeaps.{SharedRecord}
use Rattle.k_process.specs.Keeping.{operations_left}
use Rattle.k_process.specs.declared.process.Process.{Process}
use Rattle.k_process.specs.BetweenSteps.{ComesNext, RestStands}
use Rattle.k_process.specs.Worlds.{WorldValue}
use Rattle.k_process.proofs.MeetingKeeps.{shared_set}
use Rattle.k_own.specs.Reaching.{CanReach}
use Rattle.k_operate.specs.Collecting.{IsNextAndSettled}
use Rattle.k_operate.specs.Readiness.{IsReady, begins_or_ends}
use Rattle.k_operate.specs.Steps.{CanDoInside, CanDoNext, CanDoWithKernel, CanDoWithShared, CanStepNext, HasDoneAlone, HasDoneInside, HasDoneNext, HasDoneWithKernel, HasDoneWithShared, HasPublishedAll, IsDueWith, PairStands}
use Rattle.k_operate.specs.Adding.{AddsOperation, known_to}
use Rattle.k_operate.proofs.Added.{inside_adds, known_settled}
use Rattle.k_operate.proofs.Since.{can_reach, due, left_since, next_and_settled, pid_since, ready_since}

-- what is done with no shared heap leaves all others standing
pub next_alone : (world : WorldValue) (op : Op) (p q : Process) (kernel : HoldingsValue) (shared : List SharedRecord) (b l : BookRecord) → RestStands world kernel shared b → HasDoneAlone world op p q l →
    HasDoneNext world op p q kernel shared l
next_alone world op p q kernel shared b l rest a = record {
  process = a.pair.process;
  rest = record { kernel = rest.kernel; shared = rest.shared; book = a.pair.book };
  done = a.done;
}

pub next_kernel : (world : WorldValue) (op : Op) (p q : Process) (k kernel : HoldingsValue) (shared : List SharedRecord) (b l : BookRecord) → RestStands world k shared b → HasDoneWithKernel world op p q kernel l →
    HasDoneNext world op p q kernel shared l
next_kernel world op p q k kernel shared b l rest a = record {
  process = a.own.pair.process;
  rest = record { kernel = a.kernel; shared = rest.shared; book = a.own.pair.book };
  done = a.own.done;
}

-- an operation that is done by a step
module _ (world : WorldValue) (p : Process) (kernel : HoldingsValue) (shared : List SharedRecord) (b : BookRecord) (op : Op) (can : CanStepNext world p kernel shared b op) where
  pair_stands : PairStands world p b
  pair_stands = record { process = can.process; book = can.rest.book }

  pub can_reach_then : CanReach world.trace p.cell b op
  can_reach_then = can_reach world p b op pair_stands can.ready.next

  pub due_then : (cells : List Cell) → other_cells_in world.trace (book_shown_by b.value) (idle_part p.cell.value) p.cell.pid.0 op ≡ cells → IsDueWith world p b op cells
  due_then cells touches = due world p b op cells pair_stands can.ready can.steps touches

  pub can_kernel : other_cells_in world.trace (book_shown_by b.value) (idle_part p.cell.value) p.cell.pid.0 op ≡ Kernel ∷ [] → CanDoWithKernel world p kernel b op
  can_kernel touches = record { due = due_then (Kernel ∷ []) touches; kernel = can.rest.kernel }

  module _ (id : SharedId) (heap : SharedRecord) (at : slice_get shared id.0 ≡ Some heap) where
    pub can_shared : other_cells_in world.trace (book_shown_by b.value) (idle_part p.cell.value) p.cell.pid.0 op ≡ Shared id ∷ [] → CanDoWithShared world p heap b op
    can_shared touches = record {
      due = due_then (Shared heap.id ∷ []) (touches ∙ ap (λ (i : SharedId). Shared i ∷ []) (sym (ap (λ n. record { 0 = n }) (can.rest.shared.placed id.0 heap at))));
      shared = can.rest.shared.each id.0 heap at;
    }

    pub next_shared : (q : Process) (w : SharedRecord) (l : BookRecord) → HasDoneWithShared world op p q heap w l → HasDoneNext world op p q kernel (set shared id.0 w) l
    next_shared q w l a = record {
      process = a.own.pair.process;
      rest = record { kernel = can.rest.kernel; shared = shared_set world shared id.0 heap w can.rest.shared at a.shared a.same; book = a.own.pair.book };
      done = a.own.done;
    }

-- any operation
module _ (world : WorldValue) (p : Process) (kernel : HoldingsValue) (shared : List SharedRecord) (book : BookRecord) (op : Op) (can : CanDoNext world p kernel shared book op) where
  pub can_inside : CanDoInside world p op
  can_inside = record { process = can.process; next = can.next }

  pub next_inside_adds : (q : Process) (done : Bool) → done ≡ true → HasDoneInside world op p q done → AddsOperation world.trace p.cell.pid op (known_to p book) (known_to q book)
  next_inside_adds q done t s = inside_adds world.trace op p q book (s.steps t) (s.events t)

  pub next_inside : (q : Process) (done : Bool) → done ≡ true → HasDoneInside world op p q done → HasDoneNext world op p q kernel shared book
  next_inside q done t s = record { process = s.process; rest = can.rest; done = s.some t }

  module _ (q : Process) (done : Bool) (not_done : done ≡ false) (s : HasDoneInside world op p q done) where
    pub pair_outside : PairStands world q book
    pair_outside = record { process = s.process; book = can.rest.book }

    next_outside : ComesNext world.trace q.cell op
    next_outside = subst (λ (c : HeapRecord). ComesNext world.trace c op) (sym (s.none not_done)) can.next

    outside : is_local_in (idle_part q.cell.value) q.cell.pid.0 op ≡ false
    outside = ap (λ (c : HeapRecord). is_local_in (idle_part c.value) c.pid.0 op) (s.none not_done) ∙ s.outside not_done

    module _ (r : Process) (b : BookRecord) (t : HasPublishedAll world q r book b) where
      ready : IsReady world.trace r.cell op
      ready = ready_since world q r b op t next_outside outside

      pub rest_then : RestStands world kernel shared b
      rest_then = record { kernel = can.rest.kernel; shared = can.rest.shared; book = t.pair.book }

      pub settled_then : IsNextAndSettled world r b op
      settled_then = next_and_settled world r b op t.pair ready

      pub can_step : begins_or_ends op ≡ false → CanStepNext world r kernel shared b op
      can_step steps = record {
        process = t.pair.process;
        rest = rest_then;
        ready = ready;
        steps = steps;
        spares = λ k is. can.spares k is ∙ sym (pid_since world q r b op t next_outside ∙ ap (λ (c : HeapRecord). c.pid) (s.none not_done));
      }

      pub next_since : (e : Process) (k : HoldingsValue) (ss : List SharedRecord) (l : BookRecord) → HasDoneNext world op r e k ss l → HasDoneNext world op p e k ss l
      next_since e k ss l a = record {
        process = a.process;
        rest = a.rest;
        done = record {
          pid = a.done.pid ∙ pid_since world q r b op t next_outside ∙ ap (λ (c : HeapRecord). c.pid) (s.none not_done);
          left = sym (left_since world q r b op t next_outside ∙ ap (operations_left world.trace) (s.none not_done)) ∙ a.done.left;
        };
      }

      pub next_adds : (new : List Event) → AddsOperation world.trace r.cell.pid op (known_to r b) new → AddsOperation world.trace p.cell.pid op (known_to p book) new
      next_adds new a =
          let same : r.cell.pid ≡ p.cell.pid = pid_since world q r b op t next_outside ∙ ap (λ (c : HeapRecord). c.pid) (s.none not_done) in
          let known : known_to r b ≡ known_to p book = known_settled r b t.settled ∙ t.journal ∙ ap (λ (c : HeapRecord). book.journal.list ++ c.value.tail) (s.none not_done) in
          subst (λ old. AddsOperation world.trace p.cell.pid op old new) known (subst (λ (x : Pid). AddsOperation world.trace x op (known_to r b) new) same a)
