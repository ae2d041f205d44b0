use Rattle.k_rows.proofs.AttachedAgain.{worked}
use Rattle.k_rows.proofs.sharing.attached_again_row.Goals as goal

pub returns : goal.returns
returns c = worked
