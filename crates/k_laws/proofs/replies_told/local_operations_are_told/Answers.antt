use Rattle.k_laws.proofs.SquaresLaws.{local_operations_are_told}
use Rattle.k_laws.proofs.replies_told.local_operations_are_told.Goals as goal

pub returns : goal.returns
returns c = local_operations_are_told
