use Rattle.k_laws.proofs.KnownLaws.{operations_are_ordered}
use Rattle.k_laws.proofs.numbers.operations_are_ordered.Goals as goal

pub returns : goal.returns
returns c = operations_are_ordered
