use Rattle.k_rows.proofs.ASharerThatDoesNotFit.{worked}
use Rattle.k_rows.proofs.sharing.a_sharer_that_does_not_fit_row.Goals as goal

pub returns : goal.returns
returns c = worked
