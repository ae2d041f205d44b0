-- One operation of the process of a number, among all.
use Rattle.std.specs.Prelude.{◌≡◌, ◌≢◌, ℕ, List, Some, slice_get, slice_set}
use Rattle.k_types.specs.declared.op.Op.{Op}
use Rattle.k_types.specs.Complete.{IsPrefixOf}
use Rattle.k_book.specs.Books.{BookRecord}
use Rattle.k_cell.specs.Holdings.{HoldingsValue}
use Rattle.k_operate.specs.k_process.declared.process.Process.{Process}
use Rattle.k_operate.specs.k_process.Heaps.{HeapsValue}
use Rattle.k_operate.specs.k_process.BetweenSteps.{AllStand, ArePublished, ComesNext, HasDone}
use Rattle.k_operate.specs.k_process.Worlds.{WorldValue}
use Rattle.k_operate.specs.Adding.{AddsOperation, known_to}
use Rattle.k_operate.specs.Killing.{CanKillNow, HasDoneKill, known_to_both}
use Rattle.k_complete.specs.Ended.{AreKeptBut}

-- all stands, the process is that of the number, and the operation comes next of it
pub record CanDoAt (world : WorldValue) (heaps : HeapsValue) (at : ℕ) (p : Process) (op : Op) : Type 0 where
  pub stand : AllStand world heaps
  pub there : slice_get heaps.processes at ≡ Some p
  pub next : ComesNext world.trace p.cell op

-- all stands still, the process of the number has done the operation, and each other is kept. What is known to the process grows; where
-- nothing of the others was unpublished, the operation's events are the newest
pub record HasDoneAt (world : WorldValue) (op : Op) (at : ℕ) (p : Process) (old new : HeapsValue) : Type 0 where
  pub stand : AllStand world new
  pub process : Process
  pub there : slice_get new.processes at ≡ Some process
  pub done : HasDone world.trace op p.cell process.cell
  pub others : AreKeptBut world.trace at old.processes new.processes
  pub grows : IsPrefixOf (known_to p old.book) (known_to process new.book)
  pub events : ArePublished old.processes → AddsOperation world.trace p.cell.pid op (known_to p old.book) (known_to process new.book)

-- the two processes are those of these numbers, and the kill of the second comes next of the first
pub record CanKillAt (world : WorldValue) (ps : List Process) (at target : ℕ) (p t : Process) (kernel : HoldingsValue) (book : BookRecord) (op : Op) : Type 0 where
  pub own : slice_get ps at ≡ Some p
  pub other : slice_get ps target ≡ Some t
  pub two : target ≢ at
  pub can : CanKillNow world p t kernel book op

-- the first has done it, and no process but the two is another
pub record HasKilledAt (world : WorldValue) (op : Op) (at target : ℕ) (p t : Process) (old new : List Process) (kernel : HoldingsValue) (old_book book : BookRecord) : Type 0 where
  pub process : Process
  pub other : Process
  pub new_is : new ≡ slice_set (slice_set old at process) target other
  pub done : HasDoneKill world op p process t other kernel book
  pub events : AddsOperation world.trace p.cell.pid op (known_to_both p t old_book) (known_to process book)
