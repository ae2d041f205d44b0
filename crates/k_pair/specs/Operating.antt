-- What an operation asks that touches one cell beside the process's own: the kernel's, or that of a shared heap.
use Rattle.std.specs.Prelude.{◌≡◌, Bool, true, false, IsFalse, IsTrue, [], ◌∷◌}
use Rattle.k_types.specs.declared.op.Op.{Op}
use Rattle.k_types.specs.declared.op.Op.TheVariants.{New, KNew, SNew, Store, Load, Move, Clear, Dir, Put, Get, Collect, KCollect, Share, Freeze, Attach, Exit, Kill, Resize}
use Rattle.k_types.specs.Agree.{book_shown_by}
use Rattle.k_types.specs.Cells.{Cell}
use Rattle.k_types.specs.Steps.{in_range}
use Rattle.k_types.specs.Trace.{Trace}
use Rattle.k_agree.specs.Meeting.{Fits}
use Rattle.k_laws.specs.Touches.{other_cells_in}
use Rattle.k_commit.specs.k_book.Books.{BookRecord}
use Rattle.k_commit.specs.k_cell.Holdings.{HoldingsValue}
use Rattle.k_commit.specs.k_heap.Heaps.{HeapRecord}
use Rattle.k_commit.specs.k_shared.SharedHeaps.{SharedRecord}
use Rattle.k_commit.specs.k_agree.Shown.{idle_part}
use Rattle.k_commit.specs.Met.{BeforeWith, HaveMetWith}
use Rattle.k_commit.specs.Others.{OtherValue, of_kernel, of_shared}
use Rattle.k_commit.specs.Rooms.{CanOperateWith, HasRoomFor}

-- the operation touches that cell beside the process's own and no other, by what the process's cell and the book show
abbrev pub TouchesOther : Trace → HeapRecord → Cell → BookRecord → Op → Type 0
TouchesOther trace cell other book op = other_cells_in trace (book_shown_by book.value) (idle_part cell.value) cell.pid.0 op ≡ other ∷ []

-- the operation opens a collection of the kernel, or ends its process
abbrev pub collects_or_exits : Op → Bool
collects_or_exits (New r ty) = false
collects_or_exits (KNew r ty) = false
collects_or_exits (SNew r s ty) = false
collects_or_exits (Store base i value) = false
collects_or_exits (Load r base i) = false
collects_or_exits (Move r from) = false
collects_or_exits (Clear r) = false
collects_or_exits (Dir r) = false
collects_or_exits (Put base i number) = false
collects_or_exits (Get base i) = false
collects_or_exits Collect = false
collects_or_exits KCollect = true
collects_or_exits (Share s) = false
collects_or_exits (Freeze s root) = false
collects_or_exits (Attach r s) = false
collects_or_exits Exit = true
collects_or_exits (Kill q) = false
collects_or_exits (Resize m max) = false

-- cells and book can do the operation, which touches the other cell once both notes fit the journal
pub record CanStepWith (trace : Trace) (cell : HeapRecord) (other : OtherValue) (book : BookRecord) (op : Op) : Type 0 where
  pub can : CanOperateWith trace cell other book op
  pub touches : Fits book.journal cell.note → Fits book.journal other.held.note → TouchesOther trace cell other.cell book op

-- the same where that is the kernel's cell, and the operation neither opens a collection of the kernel nor ends its process
pub record CanStepWithKernel (trace : Trace) (cell : HeapRecord) (kernel : HoldingsValue) (book : BookRecord) (op : Op) : Type 0 where
  pub step : CanStepWith trace cell (of_kernel kernel) book op
  pub goes_on : IsFalse (collects_or_exits op)

-- the same where that is the cell of a shared heap
abbrev pub CanStepWithShared : Trace → HeapRecord → SharedRecord → BookRecord → Op → Type 0
CanStepWithShared trace cell shared book op = CanStepWith trace cell (of_shared shared) book op

-- the cells and the book as they are now, which a step then changes
abbrev pub as_they_are : Trace → HeapRecord → OtherValue → BookRecord → BeforeWith
as_they_are trace cell other book = record { own = record { trace = trace; cell = cell; book = book }; other = other }

-- the cells and the book are as they were before, when both cells had met the journal, and can do the operation, which touches the other
-- cell
pub record HaveMetFor (before : BeforeWith) (cell : HeapRecord) (other : OtherValue) (book : BookRecord) (op : Op) : Type 0 where
  pub same : as_they_are before.own.trace cell other book ≡ before
  pub have_met : HaveMetWith (as_they_are before.own.trace cell other book)
  pub in_range : IsTrue (in_range before.own.trace op)
  pub room : HasRoomFor before.own.trace cell.bodies other.held other.seg book op
  pub touches : TouchesOther before.own.trace cell other.cell book op
