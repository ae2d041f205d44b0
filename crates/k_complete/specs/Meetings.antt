-- Cells that all meet the journal at the end.
use Rattle.std.specs.Prelude.{◌≡◌, ℕ, List, Some, slice_get}
use Rattle.k_book.specs.Books.{BookRecord}
use Rattle.k_shared.specs.SharedHeaps.{SharedRecord}
use Rattle.k_operate.specs.k_process.Keeping.{KernelKeeps}
use Rattle.k_operate.specs.k_process.declared.process.Process.{Process}
use Rattle.k_operate.specs.k_process.Heaps.{HeapsValue}
use Rattle.k_operate.specs.k_process.Over.{BookEnds}
use Rattle.k_operate.specs.k_process.BetweenSteps.{HeapsStand, ProcessesStand}
use Rattle.k_operate.specs.k_process.Worlds.{WorldValue}

-- all processes and the book stand
pub record ProcessesAndBook (world : WorldValue) (ps : List Process) (b : BookRecord) : Type 0 where
  pub processes : ProcessesStand world ps
  pub book : BookEnds world b

-- each process's cell is as it was but for its note
abbrev pub AreSameButNotes : List Process → List Process → Type 0
AreSameButNotes old new =
    (k : ℕ) (q : Process) → slice_get new k ≡ Some q → (p : Process) × (slice_get old k ≡ Some p) × (q.cell ≡ record p.cell { note = q.cell.note })

-- processes and book still stand and are as they were but for the notes, and each process's cell knows the whole journal
pub record ProcessesMet (world : WorldValue) (old_ps ps : List Process) (old_b b : BookRecord) : Type 0 where
  pub stand : ProcessesAndBook world ps b
  pub same : AreSameButNotes old_ps ps
  pub met : (k : ℕ) (p : Process) → slice_get ps k ≡ Some p → p.cell.note.list ≡ b.journal.list
  pub book_is : b ≡ old_b

-- all shared heaps and the book stand
pub record HeapsAndBook (world : WorldValue) (ss : List SharedRecord) (b : BookRecord) : Type 0 where
  pub heaps : HeapsStand world ss
  pub book : BookEnds world b

-- they still do, the book is as it was, and each shared heap's cell knows the whole journal
pub record HeapsMet (world : WorldValue) (ss : List SharedRecord) (old_b b : BookRecord) : Type 0 where
  pub stand : HeapsAndBook world ss b
  pub met : (k : ℕ) (s : SharedRecord) → slice_get ss k ≡ Some s → s.note.list ≡ b.journal.list
  pub book_is : b ≡ old_b

-- all processes, the kernel, all shared heaps and the book stand
pub record CellsAndBook (world : WorldValue) (heaps : HeapsValue) : Type 0 where
  pub processes : ProcessesStand world heaps.processes
  pub kernel : KernelKeeps world.trace world.table heaps.kernel
  pub shared : HeapsStand world heaps.shared
  pub book : BookEnds world heaps.book

-- they still do, the processes and the book are as they were but for the notes, and each cell knows the whole journal
pub record CellsMet (world : WorldValue) (old new : HeapsValue) : Type 0 where
  pub stand : CellsAndBook world new
  pub same : AreSameButNotes old.processes new.processes
  pub processes_met : (j : ℕ) (p : Process) → slice_get new.processes j ≡ Some p → p.cell.note.list ≡ new.book.journal.list
  pub kernel_met : new.kernel.note.list ≡ new.book.journal.list
  pub shared_met : (j : ℕ) (s : SharedRecord) → slice_get new.shared j ≡ Some s → s.note.list ≡ new.book.journal.list
  pub book_is : new.book ≡ old.book
