use Rattle.k_laws.proofs.BoundsLaws.{first_operations_count_less}
use Rattle.k_laws.proofs.processes.first_operations_count_less.Goals as goal

pub returns : goal.returns
returns c = first_operations_count_less
