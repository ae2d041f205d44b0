use Rattle.k_laws.proofs.BoundsLaws.{heaps_are_absorbed_once-absorbed, heaps_are_absorbed_once-closed}
use Rattle.k_laws.proofs.bounds.heaps_are_absorbed_once.Goals as goal

pub returns-clause-absorbed : goal.returns-clause-absorbed
returns-clause-absorbed c = heaps_are_absorbed_once-absorbed

pub returns-clause-closed : goal.returns-clause-closed
returns-clause-closed c = heaps_are_absorbed_once-closed
