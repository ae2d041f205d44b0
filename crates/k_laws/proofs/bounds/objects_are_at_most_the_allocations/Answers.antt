use Rattle.k_laws.proofs.BoundsLaws.{objects_are_at_most_the_allocations}
use Rattle.k_laws.proofs.bounds.objects_are_at_most_the_allocations.Goals as goal

pub returns : goal.returns
returns c = objects_are_at_most_the_allocations
