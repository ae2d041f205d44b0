use Rattle.k_text.proofs.Reports.{phases_of_a_shared_heap_is}
use Rattle.k_text.proofs.worked.phases_of_a_shared_heap_row.Goals as goal

pub returns : goal.returns
returns c = phases_of_a_shared_heap_is
