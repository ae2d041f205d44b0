use Rattle.k_rows.proofs.AHeapThatIsNotShared.{worked}
use Rattle.k_rows.proofs.barriers.a_heap_that_is_not_shared_row.Goals as goal

pub returns : goal.returns
returns c = worked
