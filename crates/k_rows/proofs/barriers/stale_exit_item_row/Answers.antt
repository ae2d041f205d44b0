use Rattle.k_rows.proofs.StaleExitItem.{worked}
use Rattle.k_rows.proofs.barriers.stale_exit_item_row.Goals as goal

pub returns : goal.returns
returns c = worked
