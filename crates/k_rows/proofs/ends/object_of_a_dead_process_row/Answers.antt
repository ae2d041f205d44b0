use Rattle.k_rows.proofs.ObjectOfADeadProcess.{worked}
use Rattle.k_rows.proofs.ends.object_of_a_dead_process_row.Goals as goal

pub returns : goal.returns
returns c = worked
