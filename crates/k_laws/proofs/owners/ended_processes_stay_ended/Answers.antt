use Rattle.k_laws.proofs.KeptLaws.{ended_processes_stay_ended}
use Rattle.k_laws.proofs.owners.ended_processes_stay_ended.Goals as goal

pub returns : goal.returns
returns c = ended_processes_stay_ended
