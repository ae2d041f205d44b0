use Rattle.k_rows.proofs.LastCollection.{worked}
use Rattle.k_rows.proofs.ends.last_collection_row.Goals as goal

pub returns : goal.returns
returns c = worked
