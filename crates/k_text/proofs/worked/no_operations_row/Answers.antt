use Rattle.k_text.proofs.Reports.{no_operations_is}
use Rattle.k_text.proofs.worked.no_operations_row.Goals as goal

pub returns : goal.returns
returns c = no_operations_is
