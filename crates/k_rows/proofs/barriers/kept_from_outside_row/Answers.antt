use Rattle.k_rows.proofs.KeptFromOutside.{worked}
use Rattle.k_rows.proofs.barriers.kept_from_outside_row.Goals as goal

pub returns : goal.returns
returns c = worked
