use Rattle.k_text.proofs.Reports.{heap_that_is_not_shared_is}
use Rattle.k_text.proofs.worked.heap_that_is_not_shared_row.Goals as goal

pub returns : goal.returns
returns c = heap_that_is_not_shared_is
