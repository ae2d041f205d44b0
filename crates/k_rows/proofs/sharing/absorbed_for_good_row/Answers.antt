use Rattle.k_rows.proofs.AbsorbedForGood.{worked}
use Rattle.k_rows.proofs.sharing.absorbed_for_good_row.Goals as goal

pub returns : goal.returns
returns c = worked
