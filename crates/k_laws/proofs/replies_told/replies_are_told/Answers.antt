use Rattle.k_laws.proofs.SquaresLaws.{replies_are_told}
use Rattle.k_laws.proofs.replies_told.replies_are_told.Goals as goal

pub returns : goal.returns
returns c = replies_are_told
