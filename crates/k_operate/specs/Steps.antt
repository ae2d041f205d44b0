-- What an operation of a process asks and leaves.
use Rattle.std.specs.Prelude.{◌≡◌, Bool, IsFalse, IsTrue, List, [], ◌∷◌}
use Rattle.k_types.specs.declared.names.Heap.TheVariants.{Kernel, Shared}
use Rattle.k_types.specs.declared.names.Pid.{Pid}
use Rattle.k_types.specs.declared.op.Op.{Op}
use Rattle.k_types.specs.declared.op.Op.TheVariants.{Kill}
use Rattle.k_types.specs.Agree.{book_shown_by}
use Rattle.k_laws.specs.Locals.{is_local_in}
use Rattle.k_laws.specs.Touches.{other_cells_in}
use Rattle.k_agree.specs.Shown.{idle_part}
use Rattle.k_process.specs.k_book.Books.{BookRecord}
use Rattle.k_process.specs.k_cell.Holdings.{HoldingsValue}
use Rattle.k_process.specs.k_shared.SharedHeaps.{SharedRecord}
use Rattle.k_types.specs.Cells.{Cell}
use Rattle.k_process.specs.Keeping.{BookKeeps, KernelKeeps, SharedKeeps}
use Rattle.k_process.specs.declared.process.Process.{Process}
use Rattle.k_process.specs.BetweenSteps.{ComesNext, HasDone, ProcessStands, RestStands}
use Rattle.k_process.specs.Worlds.{WorldValue}
use Rattle.k_operate.specs.Adding.{AddsOne, known_to}
use Rattle.k_operate.specs.Readiness.{IsReady, begins_or_ends}

-- process and book stand
pub record PairStands (world : WorldValue) (p : Process) (b : BookRecord) : Type 0 where
  pub process : ProcessStands world p
  pub book : BookKeeps world.trace world.table b

-- the process stands, and the operation comes next
pub record CanDoInside (world : WorldValue) (p : Process) (op : Op) : Type 0 where
  pub process : ProcessStands world p
  pub next : ComesNext world.trace p.cell op

-- the process stands still; the operation was done by a step and its event is unpublished, or it was not local and nothing changed
pub record HasDoneInside (world : WorldValue) (op : Op) (old new : Process) (done : Bool) : Type 0 where
  pub process : ProcessStands world new
  pub some : IsTrue done → HasDone world.trace op old.cell new.cell
  pub none : IsFalse done → new.cell ≡ old.cell
  pub outside : IsFalse done → IsFalse (is_local_in (idle_part old.cell.value) old.cell.pid.0 op)
  pub events : IsTrue done → AddsOne old.cell.pid op old.cell.value.tail new.cell.value.tail
  pub steps : IsTrue done → IsFalse (begins_or_ends op)

-- process and book stand still, what was unpublished is in the journal, the cell's note knows the whole journal, and else the cell shows what it
-- showed
pub record HasPublishedAll (world : WorldValue) (old new : Process) (old_book book : BookRecord) : Type 0 where
  pub pair : PairStands world new book
  pub settled : new.cell.value.tail ≡ []
  pub journal : book.journal.list ≡ known_to old old_book
  pub met : new.cell.note.list ≡ book.journal.list
  pub cell_is : new.cell ≡ record old.cell { note = new.cell.note; value = record old.cell.value { tail = [] } }

-- process and book stand with nothing unpublished; the operation comes next, is not local, is done by a step, and touches these cells beside the own
pub record IsDueWith (world : WorldValue) (p : Process) (b : BookRecord) (op : Op) (cells : List Cell) : Type 0 where
  pub pair : PairStands world p b
  pub settled : p.cell.value.tail ≡ []
  pub next : ComesNext world.trace p.cell op
  pub outside : IsFalse (is_local_in (idle_part p.cell.value) p.cell.pid.0 op)
  pub touches : other_cells_in world.trace (book_shown_by b.value) (idle_part p.cell.value) p.cell.pid.0 op ≡ cells
  pub steps : IsFalse (begins_or_ends op)

-- the operation touches no other cell
abbrev pub CanDoAlone : WorldValue → Process → BookRecord → Op → Type 0
CanDoAlone world p b op = IsDueWith world p b op []

-- process and book stand still with nothing unpublished, and the process has done the operation
pub record HasDoneAlone (world : WorldValue) (op : Op) (old new : Process) (book : BookRecord) : Type 0 where
  pub pair : PairStands world new book
  pub done : HasDone world.trace op old.cell new.cell
  pub settled : new.cell.value.tail ≡ []

-- the operation touches the kernel's cell, which stands
pub record CanDoWithKernel (world : WorldValue) (p : Process) (k : HoldingsValue) (b : BookRecord) (op : Op) : Type 0 where
  pub due : IsDueWith world p b op (Kernel ∷ [])
  pub kernel : KernelKeeps world.trace world.table k

-- the kernel stands still too
pub record HasDoneWithKernel (world : WorldValue) (op : Op) (old new : Process) (k : HoldingsValue) (b : BookRecord) : Type 0 where
  pub own : HasDoneAlone world op old new b
  pub kernel : KernelKeeps world.trace world.table k

-- the operation touches the shared heap's cell, which stands
pub record CanDoWithShared (world : WorldValue) (p : Process) (s : SharedRecord) (b : BookRecord) (op : Op) : Type 0 where
  pub due : IsDueWith world p b op (Shared s.id ∷ [])
  pub shared : SharedKeeps world.trace world.table s

-- the shared heap stands still too, and is the same one
pub record HasDoneWithShared (world : WorldValue) (op : Op) (old new : Process) (old_s s : SharedRecord) (b : BookRecord) : Type 0 where
  pub own : HasDoneAlone world op old new b
  pub shared : SharedKeeps world.trace world.table s
  pub same : s.id ≡ old_s.id

-- the operation kills no other process than its own, so that it ends none
abbrev pub SparesOthers : Process → Op → Type 0
SparesOthers p op = (q : Pid) → op ≡ Kill q → q ≡ p.cell.pid

-- all stands, and the operation comes next and kills no other process
pub record CanDoNext (world : WorldValue) (p : Process) (kernel : HoldingsValue) (shared : List SharedRecord) (book : BookRecord) (op : Op) : Type 0 where
  pub process : ProcessStands world p
  pub rest : RestStands world kernel shared book
  pub next : ComesNext world.trace p.cell op
  pub spares : SparesOthers p op

-- all stands, and the operation is ready, done by a step, and kills no other process
pub record CanStepNext (world : WorldValue) (p : Process) (kernel : HoldingsValue) (shared : List SharedRecord) (book : BookRecord) (op : Op) : Type 0 where
  pub process : ProcessStands world p
  pub rest : RestStands world kernel shared book
  pub ready : IsReady world.trace p.cell op
  pub steps : IsFalse (begins_or_ends op)
  pub spares : SparesOthers p op

-- all stands still, and the process has done the operation
pub record HasDoneNext (world : WorldValue) (op : Op) (old new : Process) (kernel : HoldingsValue) (shared : List SharedRecord) (book : BookRecord) : Type 0 where
  pub process : ProcessStands world new
  pub rest : RestStands world kernel shared book
  pub done : HasDone world.trace op old.cell new.cell
