use Rattle.k_text.proofs.Reports.{object_of_a_dead_process_is}
use Rattle.k_text.proofs.worked.object_of_a_dead_process_row.Goals as goal

pub returns : goal.returns
returns c = object_of_a_dead_process_is
