use Rattle.k_rows.proofs.AFullLimitAboveASoftOne.{worked}
use Rattle.k_rows.proofs.limits.a_full_limit_above_a_soft_one_row.Goals as goal

pub returns : goal.returns
returns c = worked
