use Rattle.k_rows.proofs.TwoOpenCollections.{worked}
use Rattle.k_rows.proofs.collections.two_open_collections_row.Goals as goal

pub returns : goal.returns
returns c = worked
