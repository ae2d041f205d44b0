-- Operations that touch the process's own cell alone, and that are not done inside its heap.
use Rattle.std.specs.Prelude.{◌≡◌, Bool, true, false, IsFalse, []}
use Rattle.k_types.specs.declared.op.Op.{Op}
use Rattle.k_types.specs.declared.op.Op.TheVariants.{Collect}
use Rattle.k_types.specs.Agree.{book_shown_by}
use Rattle.k_types.specs.Trace.{Trace}
use Rattle.k_agree.specs.Meeting.{Fits}
use Rattle.k_commit.specs.k_book.Books.{BookRecord}
use Rattle.k_commit.specs.k_heap.Heaps.{HeapRecord, holdings_of, own_segment}
use Rattle.k_commit.specs.k_agree.Shown.{idle_part}
use Rattle.k_laws.specs.Locals.{is_local_in}
use Rattle.k_laws.specs.Touches.{other_cells_in}
use Rattle.k_commit.specs.Changed.{MayCommit}
use Rattle.k_commit.specs.Met.{Before, HaveMet}
use Rattle.k_commit.specs.Rooms.{CanOperate, HasTableRoom}

-- the operation begins a collection of the process's heap
abbrev pub is_collect : Op → Bool
is_collect Collect = true
is_collect _ = false

-- by the values of cell and book the operation touches no other cell, and it is neither done inside the heap nor a collection's beginning
pub record IsOwn (trace : Trace) (cell : HeapRecord) (book : BookRecord) (op : Op) : Type 0 where
  pub alone : other_cells_in trace (book_shown_by book.value) (idle_part cell.value) cell.pid.0 op ≡ []
  pub not_local : IsFalse (is_local_in (idle_part cell.value) cell.pid.0 op)
  pub no_collection : IsFalse (is_collect op)

-- the operation can be done, and is such a one once the note fits the journal
pub record CanStepOwn (trace : Trace) (cell : HeapRecord) (book : BookRecord) (op : Op) : Type 0 where
  pub can : CanOperate trace cell book op
  pub own : Fits book.journal cell.note → IsOwn trace cell book op

-- the cell and the book are as they met, and the operation is such a one, for which there is room
pub record IsDue (before : Before) (cell : HeapRecord) (book : BookRecord) (op : Op) : Type 0 where
  pub cell_is : cell ≡ before.cell
  pub book_is : book ≡ before.book
  pub have_met : HaveMet before
  pub may : MayCommit before op
  pub tables : HasTableRoom before.trace before.cell.bodies (holdings_of before.cell) (own_segment before.cell.pid) before.book op
  pub own : IsOwn before.trace before.cell before.book op
