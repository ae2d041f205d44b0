use Rattle.k_rows.proofs.ASoftLimitChargesUpward.{worked}
use Rattle.k_rows.proofs.limits.a_soft_limit_charges_upward_row.Goals as goal

pub returns : goal.returns
returns c = worked
