use Rattle.k_laws.proofs.BoundsLaws.{serials_are_at_most_the_allocations}
use Rattle.k_laws.proofs.bounds.serials_are_at_most_the_allocations.Goals as goal

pub returns : goal.returns
returns c = serials_are_at_most_the_allocations
