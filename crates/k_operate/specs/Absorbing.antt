-- What the absorption of orphans asks and leaves.
use Rattle.std.specs.Prelude.{◌≡◌, List, [], ◌∷◌, ◌++◌, Some, None}
use Rattle.k_types.specs.declared.event.Event.TheVariants.{Absorbed}
use Rattle.k_types.specs.declared.op.Op.TheVariants.{KCollect}
use Rattle.k_types.specs.FileOrder.{absorptions}
use Rattle.k_types.specs.Steps.{state_after}
use Rattle.k_process.specs.k_book.Books.{BookRecord}
use Rattle.k_process.specs.k_cell.Holdings.{HoldingsValue}
use Rattle.k_process.specs.k_shared.SharedHeaps.{SharedRecord}
use Rattle.k_shares.specs.Sharers.{lowest_orphan}
use Rattle.k_process.specs.Keeping.{BookKeeps, KernelKeeps, SharedKeeps}
use Rattle.k_process.specs.declared.process.Process.{Process}
use Rattle.k_process.specs.BetweenSteps.{RestStands}
use Rattle.k_process.specs.Worlds.{WorldValue}
use Rattle.k_operate.specs.Collecting.{IsNextAndSettled}

-- the shared heap, the kernel and the book stand, and the heap is the orphan of the lowest number
pub record CanAbsorbOrphan (world : WorldValue) (s : SharedRecord) (k : HoldingsValue) (b : BookRecord) : Type 0 where
  pub shared : SharedKeeps world.trace world.table s
  pub kernel : KernelKeeps world.trace world.table k
  pub book : BookKeeps world.trace world.table b
  pub orphan : lowest_orphan b.value.phases b.value.shares ≡ Some s.id.0

-- all three stand still, the heap is the same one, and its absorption is the newest event
pub record HasAbsorbedOrphan (world : WorldValue) (old_s s : SharedRecord) (k : HoldingsValue) (old_b b : BookRecord) : Type 0 where
  pub shared : SharedKeeps world.trace world.table s
  pub same : s.id ≡ old_s.id
  pub kernel : KernelKeeps world.trace world.table k
  pub book : BookKeeps world.trace world.table b
  pub journal : b.journal.list ≡ old_b.journal.list ++ Absorbed old_s.id ∷ []

-- kernel, shared heaps and book stand still, no shared heap is an orphan, and the absorptions of all that were, by rising number, are
-- the newest events
pub record HasAbsorbedOrphans (world : WorldValue) (k : HoldingsValue) (ss : List SharedRecord) (old_b b : BookRecord) : Type 0 where
  pub rest : RestStands world k ss b
  pub none : lowest_orphan b.value.phases b.value.shares ≡ None
  pub journal : b.journal.list ≡ old_b.journal.list ++ absorptions world.trace (state_after world.trace old_b.journal.list)

-- `kcollect` comes next of the process, and kernel, shared heaps and book stand
pub record CanCollectKernel (world : WorldValue) (p : Process) (k : HoldingsValue) (ss : List SharedRecord) (b : BookRecord) : Type 0 where
  pub own : IsNextAndSettled world p b KCollect
  pub rest : RestStands world k ss b
