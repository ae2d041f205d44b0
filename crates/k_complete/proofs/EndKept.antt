-- What is left of processes, done one after the other.
use Rattle.std.proofs.Common.{◌≡◌, ◌<◌, ℕ, refl, sym, ap, ◌∙◌, subst, List, length, set, Some, slice_get, IsTrue, inl, inr, arith}
use Rattle.k_types.specs.declared.op.Op.{Op}
use Rattle.k_types.specs.Trace.{operations_of}
use Rattle.k_tie.specs.Values.{NoteValue}
use Rattle.k_agree.specs.Settled.{all_ended_in, no_orphan_in}
use Rattle.k_types.specs.Complete.{EndsWithClosing}
use Rattle.k_book.specs.Books.{BookRecord}
use Rattle.k_cell.specs.Holdings.{HoldingsValue}
use Rattle.k_heap.specs.Heaps.{HeapRecord}
use Rattle.k_shared.specs.SharedHeaps.{SharedRecord}
use Rattle.k_operate.specs.k_collect.Met.{HeapHasMet, KernelHasMet, SharedHasMet}
use Rattle.k_operate.specs.k_collect.Others.{held_by, shared_by}
use Rattle.k_operate.specs.k_collect.Standing.{BookStands}
use Rattle.k_operate.specs.k_process.Keeping.{operations_left}
use Rattle.k_operate.specs.k_process.declared.process.Process.{Process}
use Rattle.k_complete.specs.Closing.{HasClosedAll}
use Rattle.k_complete.specs.Ended.{AllThrough}
use Rattle.k_operate.specs.k_process.Heaps.{HeapsValue}
use Rattle.k_operate.specs.k_process.Over.{AllEnded, AllMet, BookEnds}
use Rattle.k_complete.specs.Meetings.{AreSameButNotes, CellsAndBook, CellsMet, HeapsAndBook, HeapsMet, ProcessesAndBook, ProcessesMet}
use Rattle.k_operate.specs.k_process.BetweenSteps.{HasDone, IsThroughWith, ProcessStands}
use Rattle.k_operate.specs.k_process.Worlds.{WorldValue}
use Rattle.k_operate.proofs.Written.{get_set_cases}
use Rattle.k_operate.proofs.Kept.{met_heap, met_kernel, met_shared, process_set, shared_set}

-- fewer operations are left
pub fewer_left : (world : WorldValue) (op : Op) (old new : HeapRecord) → HasDone world.trace op old new → length (operations_left world.trace new) < length (operations_left world.trace old)
fewer_left world op old new d = let all = ap length d.left in omega (arith, all)

-- a process whose cell is as it was but for its note is through as before
pub through_kept : (world : WorldValue) (c w : HeapRecord) → w ≡ record c { note = w.note } → IsThroughWith world.trace c → IsThroughWith world.trace w
through_kept world c w is t = subst (IsThroughWith world.trace) (sym is) (record { published = t.published; all = t.all })

pub all_same : (ps : List Process) → AreSameButNotes ps ps
all_same ps k q at = (q, at, refl)

-- one more has met the journal
pub one_same : (old ps : List Process) (n : ℕ) (p : Process) (w : HeapRecord) (note : NoteValue) → AreSameButNotes old ps → slice_get ps n ≡ Some p → w ≡ record p.cell { note = note } → AreSameButNotes old (set ps n (record p { cell = w }))
one_same old ps n p w note same at is k q found = elim (get_set_cases ps n k (record p { cell = w }) q found) [
  | inl here ↦
      let before = same n p at in
      let now : w ≡ record before.0.cell { note = w.note } =
      is ∙ ap (λ (c : HeapRecord). record c { note = note }) before.2 ∙ ap (λ (m : NoteValue). record before.0.cell { note = m }) (sym (ap (λ (c : HeapRecord). c.note) is)) in
      (before.0, ap (slice_get old) here.0 ∙ before.1, subst (λ (x : Process). x.cell ≡ record before.0.cell { note = x.cell.note }) here.1 now)
  | inr there ↦ same k q there
]

-- a process whose cell has met the journal stands
pub met_stands : (world : WorldValue) (p : Process) (b l : BookRecord) → BookStands world.trace b → b.journal.table ≡ world.table → ProcessStands world p → (w : HeapRecord) → HeapHasMet world.trace p.cell w b l →
    ProcessStands world (record p { cell = w })
met_stands world p b l stands table process w s = record {
  cell = met_heap world.trace world.table b l stands table p.cell w process.cell s;
  operations = process.operations ∙ ap (λ (c : HeapRecord). operations_of world.trace c.pid.0) (sym s.cell_is);
}

module _ (world : WorldValue) (ps : List Process) (b l : BookRecord) (t : ProcessesAndBook world ps b) (n : ℕ) (p : Process) (at : slice_get ps n ≡ Some p) (w : HeapRecord) (s : HeapHasMet world.trace p.cell w b l) where
  pub one_met : ProcessesAndBook world (set ps n (record p { cell = w })) l
  one_met = record {
    processes = process_set world ps n p (record p { cell = w }) t.processes at (met_stands world p b l t.book.stands t.book.table (t.processes.each n p at) w s) (ap (λ (c : HeapRecord). c.pid) s.cell_is);
    book = subst (BookEnds world) (sym s.book_is) t.book;
  }

  pub met_list : w.note.list ≡ l.journal.list
  met_list = ap (λ (c : HeapRecord). c.note.list) s.cell_is ∙ ap (λ (x : BookRecord). x.journal.list) (sym s.book_is)

module _ (world : WorldValue) (ss : List SharedRecord) (b l : BookRecord) (t : HeapsAndBook world ss b) (n : ℕ) (h : SharedRecord) (at : slice_get ss n ≡ Some h) (w : SharedRecord) (s : SharedHasMet world.trace h w b l) where
  pub one_heap_met : HeapsAndBook world (set ss n w) l
  one_heap_met = record {
    heaps = shared_set world ss n h w t.heaps at (met_shared world.trace world.table b l t.book.stands t.book.table h w (t.heaps.each n h at) s) (ap (λ (c : SharedRecord). c.id) (ap shared_by s.other_is));
    book = subst (BookEnds world) (sym s.book_is) t.book;
  }

  pub heap_met_list : w.note.list ≡ l.journal.list
  heap_met_list = ap (λ (c : SharedRecord). c.note.list) (ap shared_by s.other_is) ∙ ap (λ (x : BookRecord). x.journal.list) (sym s.book_is)

-- processes that are through, and what comes last is done
pub all_closed : (world : WorldValue) (heaps : HeapsValue) (x : HoldingsValue) (ts : List SharedRecord) (l : BookRecord) → AllThrough world heaps → HasClosedAll world x ts heaps.book l →
    AllEnded world (record { processes = heaps.processes; kernel = x; shared = ts; book = l })
all_closed world heaps x ts l a c = record {
  processes = record { processes = a.stand.processes; through = a.through; book = c.book };
  kernel = c.kernel;
  shared = c.shared;
  orphans = c.orphans;
  closed = c.closed;
}

-- all cells have met the journal
pub cells_met : (world : WorldValue) (heaps : HeapsValue) (qs : List Process) (x : HoldingsValue) (ts : List SharedRecord) (c d e : BookRecord) → CellsAndBook world heaps → ProcessesMet world heaps.processes qs heaps.book c →
    KernelHasMet world.trace heaps.kernel x c d → HeapsMet world ts d e → CellsMet world heaps (record { processes = qs; kernel = x; shared = ts; book = e })
cells_met world heaps qs x ts c d e all p kernel shared =
    let same : e ≡ c = shared.book_is ∙ kernel.book_is in
    record {
      stand = record {
        processes = p.stand.processes;
        kernel = met_kernel world.trace world.table c d p.stand.book.stands p.stand.book.table heaps.kernel x all.kernel kernel;
        shared = shared.stand.heaps;
        book = shared.stand.book;
      };
      same = p.same;
      processes_met = λ j q found. p.met j q found ∙ ap (λ (y : BookRecord). y.journal.list) (sym same);
      kernel_met = ap (λ (y : HoldingsValue). y.note.list) (ap held_by kernel.other_is) ∙ ap (λ (y : BookRecord). y.journal.list) (sym same);
      shared_met = shared.met;
      book_is = same ∙ p.book_is;
    }

-- what holds of runs that are ended holds once all cells have met the journal
pub all_met : (world : WorldValue) (old new : HeapsValue) → AllEnded world old → CellsMet world old new → AllMet world new
all_met world old new all m = record {
  ended = record {
    processes = record {
      processes = m.stand.processes;
      through = λ j q found. let p = m.same j q found in through_kept world p.0.cell q.cell p.2 (all.processes.through j p.0 p.1);
      book = m.stand.book;
    };
    kernel = m.stand.kernel;
    shared = m.stand.shared;
    orphans = λ ended. subst (λ (y : BookRecord). IsTrue (no_orphan_in world.trace y.value)) (sym m.book_is) (all.orphans (subst (λ (y : BookRecord). IsTrue (all_ended_in world.trace y.value)) m.book_is ended));
    closed = λ ended. subst (λ (y : BookRecord). EndsWithClosing y.journal.list) (sym m.book_is) (all.closed (subst (λ (y : BookRecord). IsTrue (all_ended_in world.trace y.value)) m.book_is ended));
  };
  processes_met = m.processes_met;
  kernel_met = m.kernel_met;
  shared_met = m.shared_met;
}
