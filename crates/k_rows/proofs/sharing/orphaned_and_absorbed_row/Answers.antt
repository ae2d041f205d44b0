use Rattle.k_rows.proofs.OrphanedAndAbsorbed.{worked}
use Rattle.k_rows.proofs.sharing.orphaned_and_absorbed_row.Goals as goal

pub returns : goal.returns
returns c = worked
