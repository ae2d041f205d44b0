use Rattle.k_rows.proofs.RefusedFreezes.{worked}
use Rattle.k_rows.proofs.sharing.refused_freezes_row.Goals as goal

pub returns : goal.returns
returns c = worked
