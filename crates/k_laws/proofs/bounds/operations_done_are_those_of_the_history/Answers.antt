use Rattle.k_laws.proofs.BoundsLaws.{operations_done_are_those_of_the_history}
use Rattle.k_laws.proofs.bounds.operations_done_are_those_of_the_history.Goals as goal

pub returns : goal.returns
returns c = operations_done_are_those_of_the_history
