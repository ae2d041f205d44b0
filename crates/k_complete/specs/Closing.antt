-- The last collection of the kernel, where every process has ended.
use Rattle.std.specs.Prelude.{◌≡◌, List, ◌++◌, IsTrue, Some, None}
use Rattle.k_types.specs.declared.event.Event.TheVariants.{Closing}
use Rattle.k_types.specs.declared.names.Heap.TheVariants.{Kernel}
use Rattle.k_types.specs.Complete.{EndsWithClosing}
use Rattle.k_types.specs.FileOrder.{last_events, with_end}
use Rattle.k_types.specs.Steps.{state_after}
use Rattle.k_agree.specs.Settled.{all_ended_in, no_orphan_in}
use Rattle.k_book.specs.Books.{BookRecord}
use Rattle.k_cell.specs.Holdings.{HoldingsValue}
use Rattle.k_shared.specs.SharedHeaps.{SharedRecord}
use Rattle.k_shares.specs.Sharers.{lowest_orphan}
use Rattle.k_operate.specs.k_process.Keeping.{BookKeeps, KernelKeeps}
use Rattle.k_operate.specs.k_process.BetweenSteps.{HeapsStand}
use Rattle.k_operate.specs.k_process.Worlds.{WorldValue}
use Rattle.k_operate.specs.k_process.Over.{BookEnds}

-- kernel and book stand, every process has ended, and no shared heap is an orphan
pub record CanCollectLast (world : WorldValue) (k : HoldingsValue) (b : BookRecord) : Type 0 where
  pub kernel : KernelKeeps world.trace world.table k
  pub book : BookKeeps world.trace world.table b
  pub ended : IsTrue (all_ended_in world.trace b.value)
  pub orphans : lowest_orphan b.value.phases b.value.shares ≡ None

-- kernel and book stand still, no shared heap is an orphan, and the newest events are the closing and the end of the collection that it begins
pub record HasCollectedLast (world : WorldValue) (k : HoldingsValue) (old_b b : BookRecord) : Type 0 where
  pub kernel : KernelKeeps world.trace world.table k
  pub book : BookEnds world b
  pub orphans : lowest_orphan b.value.phases b.value.shares ≡ None
  pub journal : b.journal.list ≡ old_b.journal.list ++ with_end world.trace (state_after world.trace old_b.journal.list) Closing (Some Kernel)

-- kernel, shared heaps and book stand still, and the newest events are the last ones of a run; where every process has ended, these end
-- with the closing, and no shared heap is an orphan
pub record HasClosedAll (world : WorldValue) (k : HoldingsValue) (ss : List SharedRecord) (old_b b : BookRecord) : Type 0 where
  pub kernel : KernelKeeps world.trace world.table k
  pub shared : HeapsStand world ss
  pub book : BookEnds world b
  pub journal : b.journal.list ≡ old_b.journal.list ++ last_events world.trace (state_after world.trace old_b.journal.list)
  pub orphans : IsTrue (all_ended_in world.trace b.value) → IsTrue (no_orphan_in world.trace b.value)
  pub closed : IsTrue (all_ended_in world.trace b.value) → EndsWithClosing b.journal.list
