-- A run whose cells have all met the journal, with every process through, is over.
use Rattle.std.proofs.Common.{◌≡◌, ℕ, zero, suc, ◌<◌, ◌≤◌, sym, ap, ap₂, ◌∙◌, subst, List, [], ◌∷◌, ◌++◌, append-nil, length, drop, map, arith, Option, Some, None, slice_get, IsFalse}
use Rattle.k_types.specs.declared.names.Heap.TheVariants.{Kernel, Shared, User}
use Rattle.k_types.specs.declared.names.Pid.{Pid}
use Rattle.k_types.specs.declared.names.SharedId.{SharedId}
use Rattle.k_types.specs.Agree.{CellValue}
use Rattle.k_types.specs.Cells.{Cell, ProcessPart}
use Rattle.k_types.specs.State.{State}
use Rattle.k_types.specs.Steps.{state_after}
use Rattle.k_types.specs.Trace.{IsHeap, Trace, operations_of, process_count}
use Rattle.k_laws.specs.PartUpdates.{done_in}
use Rattle.k_tie.specs.Values.{NoteValue}
use Rattle.k_agree.specs.Agreement.{Agrees, Shows}
use Rattle.k_agree.specs.Settled.{IsOver, IsSettled, IsThrough}
use Rattle.k_agree.proofs.AtTheEnd.{book_sound, is_complete}
use Rattle.k_commit.specs.k_heap.Heaps.{has_ended_in}
use Rattle.k_commit.specs.SharedHeaps.{SharedRecord}
use Rattle.k_process.proofs.CanDo.{done_at_most}
use Rattle.k_process.specs.declared.process.Process.{Process}
use Rattle.k_process.specs.Heaps.{HeapsValue}
use Rattle.k_process.specs.Over.{AllMet, IsOutcome, cells_of}
use Rattle.k_process.specs.Worlds.{WorldValue}
use Rattle.k_types.proofs.Lists.{get_there}

-- and so has the list of what is made of each
pub get_mapped : {A B : Type 0} (f : A → B) (xs : List A) (k : ℕ) (x : A) → slice_get xs k ≡ Some x → slice_get (map f xs) k ≡ Some (f x)
get_mapped f [] k x is = absurd (cc)
get_mapped f (y ∷ xs) zero x is = let same : y ≡ x = cc in ap (λ z. Some (f z)) same
get_mapped f (y ∷ xs) (suc k) x is = get_mapped f xs k x is

none_left : {A : Type 0} (n : ℕ) (xs : List A) → drop n xs ≡ [] → length xs ≤ n
none_left n [] is = omega arith
none_left zero (x ∷ xs) is = absurd (cc)
none_left (suc n) (x ∷ xs) is = let less = none_left n xs is in omega (arith, less)

through_by : (trace : Trace) (pid : Pid) (process : Option ProcessPart) → (IsFalse (has_ended_in process) → drop (done_in process) (operations_of trace pid.0) ≡ []) →
    done_in process ≤ length (operations_of trace pid.0) → IsThrough trace (User pid) process
through_by trace pid None all most = tt
through_by trace pid (Some q) all most = λ lives. let least = none_left q.done (operations_of trace pid.0) (all lives) in omega (arith, least, most)

module _ (world : WorldValue) (heaps : HeapsValue) (m : AllMet world heaps) where
  abbrev trace : Trace
  trace = world.trace

  abbrev last : State
  last = state_after trace heaps.book.journal.list

  process_at : (p : ℕ) → p < process_count trace → (q : Process) × (slice_get heaps.processes p ≡ Some q)
  process_at p known = get_there heaps.processes p (subst (λ n. p < n) (sym m.ended.processes.processes.count) known)

  shared_at : (s : ℕ) → s < trace.shared_heaps → (x : SharedRecord) × (slice_get heaps.shared s ≡ Some x)
  shared_at s known = get_there heaps.shared s (subst (λ n. s < n) (sym m.ended.shared.count) known)

  settled_process : (p : Process) (pid : Pid) → slice_get heaps.processes pid.0 ≡ Some p → IsSettled trace heaps.book.journal (User pid)
  settled_process p pid at =
      let stands = m.ended.processes.processes.each pid.0 p at in
      let through = m.ended.processes.through pid.0 p at in
      let same : p.cell.pid ≡ pid = ap (λ n. record { 0 = n }) (m.ended.processes.processes.placed pid.0 p at) in
      record {
        note = p.cell.note;
        value = p.cell.value;
        agrees = subst (λ (q : Pid). Agrees trace (User q) p.cell.note p.cell.value) same stands.cell.agrees;
        list = m.processes_met pid.0 p at;
        tail = through.published;
        idle = stands.cell.idle;
        through = subst (λ (q : Pid). IsThrough trace (User q) p.cell.value.process) same (through_by trace p.cell.pid p.cell.value.process through.all (done_at_most trace world.table p.cell stands.cell));
      }

  settled_shared : (x : SharedRecord) (id : SharedId) → slice_get heaps.shared id.0 ≡ Some x → IsSettled trace heaps.book.journal (Shared id)
  settled_shared x id at =
      let stands = m.ended.shared.each id.0 x at in
      let same : x.id ≡ id = ap (λ n. record { 0 = n }) (m.ended.shared.placed id.0 x at) in
      record {
        note = x.note;
        value = x.value;
        agrees = subst (λ (q : SharedId). Agrees trace (Shared q) x.note x.value) same stands.agrees;
        list = m.shared_met id.0 x at;
        tail = stands.agrees.tail;
        idle = stands.idle;
        through = tt;
      }

  settled : (c : Cell) → IsHeap trace c → IsSettled trace heaps.book.journal c
  settled Kernel there = record {
    note = heaps.kernel.note;
    value = heaps.kernel.value;
    agrees = m.ended.kernel.agrees;
    list = m.kernel_met;
    tail = m.ended.kernel.agrees.tail;
    idle = m.ended.kernel.idle;
    through = tt;
  }
  settled (User pid) there = let p = process_at pid.0 there in settled_process p.0 pid p.1
  settled (Shared id) there = let x = shared_at id.0 there in settled_shared x.0 id x.1

  over : IsOver trace heaps.book.journal heaps.book.value
  over = record {
    cells = settled;
    book_agrees = m.ended.processes.book.stands.agrees;
    first = m.ended.processes.book.first;
    orphans = m.ended.orphans;
    closed = m.ended.closed;
  }

  shows_at_the_end : (c : Cell) (note : NoteValue) (value : CellValue) → Agrees trace c note value → note.list ≡ heaps.book.journal.list → value.tail ≡ [] → Shows trace last c value
  shows_at_the_end c note value a list none = subst (λ l. Shows trace (state_after trace l) c value) (ap₂ (λ xs ys. xs ++ ys) list none ∙ append-nil heaps.book.journal.list) a.shows

  pub outcome : IsOutcome trace (cells_of heaps)
  outcome = record {
    legal = m.ended.processes.book.stands.agrees.legal;
    complete = is_complete trace heaps.book.journal heaps.book.value m.ended.processes.book.stands.keeps.limits over;
    sound = book_sound trace heaps.book.journal heaps.book.value m.ended.processes.book.stands.keeps.limits m.ended.processes.book.stands.agrees;
    processes = λ p known.
        let at = process_at p known in
        let stands = m.ended.processes.processes.each p at.0 at.1 in (
          at.0.cell,
          get_mapped (λ (q : Process). q.cell) heaps.processes p at.0 at.1,
          m.ended.processes.processes.placed p at.0 at.1,
          shows_at_the_end (User at.0.cell.pid) at.0.cell.note at.0.cell.value stands.cell.agrees (m.processes_met p at.0 at.1) (m.ended.processes.through p at.0 at.1).published,
        );
    kernel = shows_at_the_end Kernel heaps.kernel.note heaps.kernel.value m.ended.kernel.agrees m.kernel_met m.ended.kernel.agrees.tail;
    shared = λ s known.
        let at = shared_at s known in
        let stands = m.ended.shared.each s at.0 at.1 in
        (at.0, at.1, m.ended.shared.placed s at.0 at.1, shows_at_the_end (Shared at.0.id) at.0.note at.0.value stands.agrees (m.shared_met s at.0 at.1) stands.agrees.tail);
    book = m.ended.processes.book.stands.agrees.shows;
  }
