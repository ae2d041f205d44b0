use Rattle.k_rows.proofs.AnExitPassesAnItemOn.{worked}
use Rattle.k_rows.proofs.ends.an_exit_passes_an_item_on_row.Goals as goal

pub returns : goal.returns
returns c = worked
