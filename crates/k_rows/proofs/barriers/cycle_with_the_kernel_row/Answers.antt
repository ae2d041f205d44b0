use Rattle.k_rows.proofs.CycleWithTheKernel.{worked}
use Rattle.k_rows.proofs.barriers.cycle_with_the_kernel_row.Goals as goal

pub returns : goal.returns
returns c = worked
