use Rattle.k_rows.proofs.OrderOfFaults.{worked}
use Rattle.k_rows.proofs.barriers.order_of_faults_row.Goals as goal

pub returns : goal.returns
returns c = worked
