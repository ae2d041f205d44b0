use Rattle.k_laws.proofs.KeptLaws.{owners_change_once-step, owners_change_once-kernel}
use Rattle.k_laws.proofs.owners.owners_change_once.Goals as goal

pub returns-clause-step : goal.returns-clause-step
returns-clause-step c = owners_change_once-step

pub returns-clause-kernel : goal.returns-clause-kernel
returns-clause-kernel c = owners_change_once-kernel
