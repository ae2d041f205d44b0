use Rattle.k_rows.proofs.TwoSharedHeaps.{worked}
use Rattle.k_rows.proofs.barriers.two_shared_heaps_row.Goals as goal

pub returns : goal.returns
returns c = worked
