use Rattle.k_rows.proofs.BoundaryOfAHardLimit.{worked}
use Rattle.k_rows.proofs.limits.boundary_of_a_hard_limit_row.Goals as goal

pub returns : goal.returns
returns c = worked
