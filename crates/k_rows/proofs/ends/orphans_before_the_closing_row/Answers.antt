use Rattle.k_rows.proofs.OrphansBeforeTheClosing.{worked}
use Rattle.k_rows.proofs.ends.orphans_before_the_closing_row.Goals as goal

pub returns : goal.returns
returns c = worked
