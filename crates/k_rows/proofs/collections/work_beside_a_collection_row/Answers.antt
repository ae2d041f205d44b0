use Rattle.k_rows.proofs.WorkBesideACollection.{worked}
use Rattle.k_rows.proofs.collections.work_beside_a_collection_row.Goals as goal

pub returns : goal.returns
returns c = worked
