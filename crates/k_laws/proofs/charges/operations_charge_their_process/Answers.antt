use Rattle.k_laws.proofs.Laws.{operations_charge_their_process-charged, operations_charge_their_process-uses}
use Rattle.k_laws.proofs.charges.operations_charge_their_process.Goals as goal

pub returns-clause-charged : goal.returns-clause-charged
returns-clause-charged c = operations_charge_their_process-charged

pub returns-clause-uses : goal.returns-clause-uses
returns-clause-uses c = operations_charge_their_process-uses
