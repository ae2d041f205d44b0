use Rattle.k_rows.proofs.MaximaChange.{worked}
use Rattle.k_rows.proofs.governing.maxima_change_row.Goals as goal

pub returns : goal.returns
returns c = worked
