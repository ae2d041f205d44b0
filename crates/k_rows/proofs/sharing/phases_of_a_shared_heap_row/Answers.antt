use Rattle.k_rows.proofs.PhasesOfASharedHeap.{worked}
use Rattle.k_rows.proofs.sharing.phases_of_a_shared_heap_row.Goals as goal

pub returns : goal.returns
returns c = worked
