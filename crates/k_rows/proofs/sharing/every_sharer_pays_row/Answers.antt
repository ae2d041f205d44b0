use Rattle.k_rows.proofs.EverySharerPays.{worked}
use Rattle.k_rows.proofs.sharing.every_sharer_pays_row.Goals as goal

pub returns : goal.returns
returns c = worked
