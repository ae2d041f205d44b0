use Rattle.k_text.proofs.Reports.{order_of_faults_is}
use Rattle.k_text.proofs.worked.order_of_faults_row.Goals as goal

pub returns : goal.returns
returns c = order_of_faults_is
