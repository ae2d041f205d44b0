use Rattle.k_rows.proofs.Barrier.{worked}
use Rattle.k_rows.proofs.barriers.barrier_row.Goals as goal

pub returns : goal.returns
returns c = worked
