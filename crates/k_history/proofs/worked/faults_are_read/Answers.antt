use Rattle.k_history.proofs.Readings.{faults_are_read}
use Rattle.k_history.proofs.worked.faults_are_read.Goals as goal

pub returns : goal.returns
returns c = faults_are_read
