-- What a process has done between two locks.
use Rattle.std.proofs.Common.{◌≡◌, ◌≢◌, if◌then◌else◌, IsFalse, IsTrue, refl, sym, ap, ◌∙◌, subst, [], ◌∷◌, List, Bool, None, false, true}
use Rattle.std.proofs.lemmas.Bool.{false≢true}
use Rattle.k_types.specs.declared.names.Heap.TheVariants.{Kernel, Shared}
use Rattle.k_types.specs.declared.names.Pid.{Pid}
use Rattle.k_types.specs.declared.names.SharedId.{SharedId}
use Rattle.k_types.specs.declared.op.Op.{Op}
use Rattle.k_types.specs.declared.op.Op.TheVariants.{Exit, KCollect, Kill}
use Rattle.k_types.specs.Agree.{book_shown_by}
use Rattle.k_types.specs.Cells.{Cell}
use Rattle.k_types.specs.Trace.{Trace}
use Rattle.k_laws.specs.Locals.{is_local_in}
use Rattle.k_laws.specs.Touches.{other_cells_in}
use Rattle.k_agree.specs.Shown.{idle_part}
use Rattle.k_locks.specs.k_process.k_book.Books.{BookRecord}
use Rattle.k_locks.specs.k_process.k_heap.Heaps.{HeapRecord}
use Rattle.k_locks.specs.k_process.Keeping.{operations_left}
use Rattle.k_locks.specs.k_process.declared.process.Process.{Process}
use Rattle.k_locks.specs.k_process.BetweenSteps.{ComesNext, HasDone, IsNextOf}
use Rattle.k_locks.specs.k_process.Worlds.{WorldValue}
use Rattle.k_operate.specs.Readiness.{IsOutside, begins_or_ends}
use Rattle.k_operate.specs.Steps.{HasDoneInside, HasPublishedAll, PairStands}
use Rattle.k_operate.specs.Collecting.{HasSameLeft, IsNextAndSettled}
use Rattle.k_operate.proofs.Since.{next_since, ready_since}
use Rattle.k_worker.specs.declared.turns.Turn.{Turn}
use Rattle.k_worker.specs.declared.turns.Turn.TheVariants.{Done, Over, Kills}
use Rattle.k_worker.specs.Running.{HasDoneBeside, HasDoneUnless, HasTakenTurn, IsLeft, IsReadyBeside}

-- publishing leaves all operations
pub published_left : (world : WorldValue) (q r : Process) (a b : BookRecord) → HasPublishedAll world q r a b → HasSameLeft world.trace q.cell r.cell
published_left world q r a b t = record {
  pid = ap (λ (c : HeapRecord). c.pid) t.cell_is;
  left = ap (operations_left world.trace) t.cell_is;
}

module _ (trace : Trace) (op : Op) (a b c : HeapRecord) where
  pub done_after : HasSameLeft trace a b → HasDone trace op b c → HasDone trace op a c
  done_after s done = record { pid = done.pid ∙ s.pid; left = sym s.left ∙ done.left }

  pub done_before : HasDone trace op a b → HasSameLeft trace b c → HasDone trace op a c
  done_before done s = record { pid = s.pid ∙ done.pid; left = done.left ∙ ap (λ (ops : List Op). op ∷ ops) (sym s.left) }

pub left_twice : (trace : Trace) (a b c : HeapRecord) → HasSameLeft trace a b → HasSameLeft trace b c → HasSameLeft trace a c
left_twice trace a b c s t = record { pid = t.pid ∙ s.pid; left = t.left ∙ s.left }

-- an operation is done inside the heap, or is not local
pub inside_unless : (world : WorldValue) (op : Op) (p q : Process) (done : Bool) → ComesNext world.trace p.cell op → HasDoneInside world op p q done → HasDoneUnless world.trace op p.cell q.cell done
inside_unless world op p q done next t = record {
  done = t.some;
  same = t.none;
  outside = λ no. record {
    next = subst (λ (c : HeapRecord). ComesNext world.trace c op) (sym (t.none no)) next;
    outside = subst (λ (c : HeapRecord). is_local_in (idle_part c.value) c.pid.0 op ≡ false) (sym (t.none no)) (t.outside no);
  };
}

-- a process whose events are published can go on with its next operation
pub next_settled : (world : WorldValue) (q r : Process) (a b : BookRecord) (op : Op) → HasPublishedAll world q r a b → ComesNext world.trace q.cell op → IsNextAndSettled world r b op
next_settled world q r a b op t next = record { pair = t.pair; settled = t.settled; next = next_since world q r b op t next }

pub none_reached : (c : Cell) → [] ≡ c ∷ [] → ⊥
none_reached c e = cc

pub kernel_not_shared : (s : SharedId) → Kernel ∷ [] ≡ Shared s ∷ [] → ⊥
kernel_not_shared s e = cc

pub shared_not_kernel : (s : SharedId) → Shared s ∷ [] ≡ Kernel ∷ [] → ⊥
shared_not_kernel s e = cc

-- two cells are not one
pub two_reached : (a b c : Cell) → a ∷ b ∷ [] ≡ c ∷ [] → ⊥
two_reached a b c e = cc

pub shared_apart : (s t : SharedId) → (t ≡ s → ⊥) → Shared s ∷ [] ≡ Shared t ∷ [] → ⊥
shared_apart s t apart e = apart (same s t e)
  where
    same : (s t : SharedId) → Shared s ∷ [] ≡ Shared t ∷ [] → t ≡ s
    same s t e = cc

module _ (trace : Trace) (op : Op) (beside : Cell) (c : HeapRecord) (b : BookRecord) where
  -- the operation is not done: it reaches none, or another cell
  pub not_done : (cells : List Cell) → cells ≡ other_cells_in trace (book_shown_by b.value) (idle_part c.value) c.pid.0 op → (cells ≡ beside ∷ [] → ⊥) → HasDoneBeside trace op beside c c b false
  not_done cells reached apart = record { done = λ t. absurd (false≢true t); same = λ no. refl; elsewhere = λ no one. apart (reached ∙ one) }

  pub was_done : (d : HeapRecord) → HasDone trace op c d → HasDoneBeside trace op beside c d b true
  was_done d done = record { done = λ t. done; same = λ no. absurd (false≢true (sym no)); elsewhere = λ no. absurd (false≢true (sym no)) }

-- what is told of the process before, where nothing had changed
pub done_same : (trace : Trace) (op : Op) (a b c : HeapRecord) → b ≡ a → HasDone trace op b c → HasDone trace op a c
done_same trace op a b c same done = subst (λ (x : HeapRecord). HasDone trace op x c) same done

-- an operation that a step does is not the end of the process
pub steps_stay : (op : Op) → begins_or_ends op ≡ false → op ≢ Exit
steps_stay op steps is_exit = absurd (false≢true (sym steps ∙ ap begins_or_ends is_exit))

some_touched : (c : Cell) (more : List Cell) → c ∷ more ≡ [] → ⊥
some_touched c more e = cc

-- an operation that touches another cell, and does not end its process, may be left
pub may_be_left : (world : WorldValue) (p : Process) (b : BookRecord) (op : Op) (cell : Cell) (more : List Cell) → PairStands world p b → p.cell.note.list ≡ b.journal.list → ComesNext world.trace p.cell op → op ≢ Exit →
    cell ∷ more ≡ other_cells_in world.trace (book_shown_by b.value) (idle_part p.cell.value) p.cell.pid.0 op → IsLeft world p.cell op
may_be_left world p b op cell more pair met next stays touched = record {
  next = next;
  stays = stays;
  book = b;
  keeps = pair.book;
  met = met;
  touches = λ none. some_touched cell more (touched ∙ none);
}

-- once its events are published, an operation that touches another cell is ready, and may be left
pub ready_beside : (world : WorldValue) (q r : Process) (a b : BookRecord) (op : Op) (c : HeapRecord) (cell : Cell) (more : List Cell) → HasPublishedAll world q r a b → q.cell ≡ c →
    IsOutside world.trace c op → begins_or_ends op ≡ false → cell ∷ more ≡ other_cells_in world.trace (book_shown_by b.value) (idle_part r.cell.value) r.cell.pid.0 op → IsReadyBeside world op c r.cell
ready_beside world q r a b op c cell more t is outside steps touched =
    let before = subst (λ (x : HeapRecord). IsOutside world.trace x op) (sym is) outside in
    record {
      ready = ready_since world q r b op t before.next before.outside;
      same = subst (λ (x : HeapRecord). HasSameLeft world.trace x r.cell) is (published_left world q r a b t);
      left = may_be_left world r b op cell more t.pair t.met (next_since world q r b op t before.next) (steps_stay op steps) touched;
    }

-- so may `kcollect`, which touches the kernel's cell
pub may_wait : (world : WorldValue) (p : Process) (b : BookRecord) → PairStands world p b → p.cell.note.list ≡ b.journal.list → ComesNext world.trace p.cell KCollect → IsLeft world p.cell KCollect
unfolding other_cells_in
may_wait world p b pair met next = may_be_left world p b KCollect Kernel [] pair met next kept refl
  where
    kept : KCollect ≢ Exit
    kept e = cc

module _ (trace : Trace) (c : HeapRecord) where
  -- at most one operation comes next
  pub one_next : (a b : Op) → ComesNext trace c a → ComesNext trace c b → a ≡ b
  one_next a b first second = heads (sym first.left ∙ second.left)
    where
      heads : {xs ys : List Op} → a ∷ xs ≡ b ∷ ys → a ≡ b
      heads e = cc

  pub none_next : (op : Op) → IsNextOf trace c None → ComesNext trace c op → ⊥
  none_next op none next = apart (sym (none next.lives) ∙ next.left)
    where
      apart : {xs : List Op} → [] ≡ op ∷ xs → ⊥
      apart e = cc

module _ (world : WorldValue) (op : Op) (a : HeapRecord) (next : ComesNext world.trace a op) where
  -- where the operation that comes next is left, no other one comes next
  pub turn_left : (b : HeapRecord) → IsLeft world b op → HasTakenTurn world a b Over
  turn_left b left other comes = subst (IsLeft world b) (one_next world.trace a op other next comes) left

  -- what came of a turn that did the operation or left it
  pub turn_of : (b : HeapRecord) (done : Bool) (turn : Turn) → turn ≡ (if done then Done else Over) → (IsTrue done → HasDone world.trace op a b) → (IsFalse done → IsLeft world b op) → HasTakenTurn world a b turn
  turn_of b true turn is done left = subst (HasTakenTurn world a b) (sym is) (op, done refl)
  turn_of b false turn is done left = subst (HasTakenTurn world a b) (sym is) (turn_left b (left refl))

  module _ (b : HeapRecord) (same : b ≡ a) (c : HeapRecord) where
    -- the same where the events before it were published first
    pub turn_beside : (d : HeapRecord) (beside : Cell) (book : BookRecord) (done : Bool) (turn : Turn) → turn ≡ (if done then Done else Over) → IsReadyBeside world op b c →
        HasDoneBeside world.trace op beside c d book done → HasTakenTurn world a d turn
    turn_beside d beside book done turn is ready t =
        turn_of d done turn is
        (λ yes. done_same world.trace op a b d same (done_after world.trace op b c d ready.same (t.done yes)))
        (λ no. subst (λ (x : HeapRecord). IsLeft world x op) (sym (t.same no)) ready.left)

    -- and where the operation is the kill of a process whose lock is not held
    pub turn_kills : (q : Pid) → IsReadyBeside world op b c → op ≡ Kill q → HasTakenTurn world a c (Kills q)
    turn_kills q ready is = (subst (ComesNext world.trace a) is next, subst (IsLeft world c) is ready.left)
