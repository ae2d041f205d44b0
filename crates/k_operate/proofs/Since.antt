-- What is known of a process's next operation stays known once its events are published.
use Rattle.std.proofs.Common.{◌≡◌, ◌≢◌, refl, ap, ◌∙◌, List, false}
use Rattle.k_types.specs.declared.op.Op.{Op}
use Rattle.k_types.specs.declared.op.Op.TheVariants.{Collect, Exit, KCollect}
use Rattle.k_types.specs.Agree.{book_shown_by}
use Rattle.k_types.specs.Cells.{Cell}
use Rattle.k_laws.specs.Locals.{is_local_in}
use Rattle.k_laws.specs.Touches.{other_cells_in}
use Rattle.k_agree.specs.Shown.{idle_part}
use Rattle.k_process.specs.k_book.Books.{BookRecord}
use Rattle.k_process.specs.k_heap.Heaps.{HeapRecord, has_ended_in}
use Rattle.k_process.specs.Keeping.{operations_left}
use Rattle.k_process.proofs.CanDo.{next_in_range}
use Rattle.k_process.specs.declared.process.Process.{Process}
use Rattle.k_own.specs.Reaching.{CanReach}
use Rattle.k_operate.specs.Readiness.{IsReady, begins_or_ends}
use Rattle.k_process.specs.BetweenSteps.{ComesNext}
use Rattle.k_operate.specs.Collecting.{IsNextAndSettled}
use Rattle.k_operate.specs.Steps.{HasPublishedAll, IsDueWith, PairStands}
use Rattle.k_process.specs.Worlds.{WorldValue}

-- the next operation of a process that stands names what the trace declares
pub can_reach : (world : WorldValue) (p : Process) (b : BookRecord) (op : Op) → PairStands world p b → ComesNext world.trace p.cell op → CanReach world.trace p.cell b op
can_reach world p b op pair next = record {
  agrees = pair.process.cell.agrees;
  book_stands = pair.book.stands;
  in_range = next_in_range world.trace world.table p.cell pair.process.cell op next.rest next.left;
}

module _ {a : BookRecord} (world : WorldValue) (q r : Process) (b : BookRecord) (op : Op) (t : HasPublishedAll world q r a b) (next : ComesNext world.trace q.cell op) where
  pub left_since : operations_left world.trace r.cell ≡ operations_left world.trace q.cell
  left_since = ap (operations_left world.trace) t.cell_is

  pub pid_since : r.cell.pid ≡ q.cell.pid
  pid_since = ap (λ (c : HeapRecord). c.pid) t.cell_is

  pub next_since : ComesNext world.trace r.cell op
  next_since = record {
    rest = next.rest;
    left = left_since ∙ next.left;
    lives = ap (λ (c : HeapRecord). has_ended_in c.value.process) t.cell_is ∙ next.lives;
  }

  module _ (outside : is_local_in (idle_part q.cell.value) q.cell.pid.0 op ≡ false) where
    pub ready_since : IsReady world.trace r.cell op
    ready_since = record {
      next = next_since;
      outside = ap (λ (c : HeapRecord). is_local_in (idle_part c.value) c.pid.0 op) t.cell_is ∙ outside;
      settled = t.settled;
    }

-- an operation that is ready and done by a step is due with the cells that it touches
pub due : (world : WorldValue) (p : Process) (b : BookRecord) (op : Op) (cells : List Cell) → PairStands world p b → IsReady world.trace p.cell op → begins_or_ends op ≡ false →
    other_cells_in world.trace (book_shown_by b.value) (idle_part p.cell.value) p.cell.pid.0 op ≡ cells → IsDueWith world p b op cells
due world p b op cells pair ready steps touches = record { pair = pair; settled = ready.settled; next = ready.next; outside = ready.outside; touches = touches; steps = steps }

-- an operation that is ready comes next with nothing unpublished
pub next_and_settled : (world : WorldValue) (p : Process) (b : BookRecord) (op : Op) → PairStands world p b → IsReady world.trace p.cell op → IsNextAndSettled world p b op
next_and_settled world p b op pair ready = record { pair = pair; settled = ready.settled; next = ready.next }

-- all operations but these three are done by a step
pub steps_else : (op : Op) → op ≢ Collect → op ≢ KCollect → op ≢ Exit → begins_or_ends op ≡ false
steps_else Collect c k x = absurd (c refl)
steps_else KCollect c k x = absurd (k refl)
steps_else Exit c k x = absurd (x refl)
steps_else _ c k x = refl
