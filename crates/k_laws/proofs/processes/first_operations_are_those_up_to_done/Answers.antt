use Rattle.k_laws.proofs.BoundsLaws.{first_operations_are_those_up_to_done}
use Rattle.k_laws.proofs.processes.first_operations_are_those_up_to_done.Goals as goal

pub returns : goal.returns
returns c = first_operations_are_those_up_to_done
