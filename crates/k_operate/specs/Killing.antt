-- What the end of a process by another's operation asks and leaves.
use Rattle.std.specs.Prelude.{◌≡◌, ◌++◌, List, [], ◌∷◌}
use Rattle.k_types.specs.declared.event.Event.{Event}
use Rattle.k_types.specs.declared.names.Heap.TheVariants.{Kernel, User}
use Rattle.k_types.specs.declared.op.Op.{Op}
use Rattle.k_types.specs.declared.op.Op.TheVariants.{Kill}
use Rattle.k_process.specs.k_book.Books.{BookRecord}
use Rattle.k_process.specs.k_cell.Holdings.{HoldingsValue}
use Rattle.k_process.specs.Keeping.{KernelKeeps}
use Rattle.k_process.specs.declared.process.Process.{Process}
use Rattle.k_process.specs.BetweenSteps.{ComesNext, IsThroughWith, ProcessStands}
use Rattle.k_process.specs.Worlds.{WorldValue}
use Rattle.k_operate.specs.Adding.{known_to}
use Rattle.k_operate.specs.Collecting.{HasSameLeft}
use Rattle.k_operate.specs.Steps.{HasDoneAlone, IsDueWith, PairStands}

-- two processes, the kernel and the book stand, and the kill of the second comes next of the first
pub record CanKillNow (world : WorldValue) (p t : Process) (k : HoldingsValue) (b : BookRecord) (op : Op) : Type 0 where
  pub pair : PairStands world p b
  pub target : ProcessStands world t
  pub kernel : KernelKeeps world.trace world.table k
  pub next : ComesNext world.trace p.cell op
  pub asks : op ≡ Kill t.cell.pid

-- nothing of either is unpublished, and the kill ends its target
pub record CanEndOther (world : WorldValue) (p t : Process) (k : HoldingsValue) (b : BookRecord) (op : Op) : Type 0 where
  pub due : IsDueWith world p b op (User t.cell.pid ∷ Kernel ∷ [])
  pub target : ProcessStands world t
  pub published : t.cell.value.tail ≡ []
  pub kernel : KernelKeeps world.trace world.table k
  pub asks : op ≡ Kill t.cell.pid

-- what the journal has, then what the process has not published, and then what the target has not
abbrev pub known_to_both : Process → Process → BookRecord → List Event
known_to_both p t b = known_to p b ++ t.cell.value.tail

-- all stand still with nothing unpublished, and the process has done the operation. The target is the same one and has done nothing; it is
-- through where it was
pub record HasDoneKill (world : WorldValue) (op : Op) (old new old_t new_t : Process) (k : HoldingsValue) (b : BookRecord) : Type 0 where
  pub own : HasDoneAlone world op old new b
  pub kernel : KernelKeeps world.trace world.table k
  pub target : ProcessStands world new_t
  pub published : new_t.cell.value.tail ≡ []
  pub same : HasSameLeft world.trace old_t.cell new_t.cell
  pub through : IsThroughWith world.trace old_t.cell → IsThroughWith world.trace new_t.cell
