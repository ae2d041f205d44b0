use Rattle.k_rows.proofs.TheCeiling.{worked}
use Rattle.k_rows.proofs.limits.the_ceiling_row.Goals as goal

pub returns : goal.returns
returns c = worked
