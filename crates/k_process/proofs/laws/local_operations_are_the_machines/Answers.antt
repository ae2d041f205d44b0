use Rattle.k_process.proofs.Told.{local_told, machines}
use Rattle.k_process.proofs.laws.local_operations_are_the_machines.Goals as goal

pub returns-clause-told : goal.returns-clause-told
returns-clause-told c = local_told

pub returns-clause-machines : goal.returns-clause-machines
returns-clause-machines c = machines
