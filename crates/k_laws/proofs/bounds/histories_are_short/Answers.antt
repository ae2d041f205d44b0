use Rattle.k_laws.proofs.BoundsLaws.{histories_are_short}
use Rattle.k_laws.proofs.bounds.histories_are_short.Goals as goal

pub returns : goal.returns
returns c = histories_are_short
