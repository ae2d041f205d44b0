use Rattle.k_laws.proofs.BoundsLaws.{targets_sum_as_the_items}
use Rattle.k_laws.proofs.targets.targets_sum_as_the_items.Goals as goal

pub returns : goal.returns
returns c = targets_sum_as_the_items
