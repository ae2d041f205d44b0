use Rattle.k_rows.proofs.TwoOrphansAreAbsorbed.{worked}
use Rattle.k_rows.proofs.sharing.two_orphans_are_absorbed_row.Goals as goal

pub returns : goal.returns
returns c = worked
