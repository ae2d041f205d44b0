use Rattle.k_rows.proofs.ImpossibleEvents.{a_kernel_collection_beside_an_orphan_is_not}
use Rattle.k_rows.proofs.impossible.a_kernel_collection_beside_an_orphan_is_impossible.Goals as goal

pub returns : goal.returns
returns c = a_kernel_collection_beside_an_orphan_is_not
