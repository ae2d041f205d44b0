use Rattle.k_laws.proofs.BoundsLaws.{collections_end_once}
use Rattle.k_laws.proofs.bounds.collections_end_once.Goals as goal

pub returns : goal.returns
returns c = collections_end_once
