use Rattle.k_text.proofs.Reports.{orphaned_and_absorbed_is}
use Rattle.k_text.proofs.worked.orphaned_and_absorbed_row.Goals as goal

pub returns : goal.returns
returns c = orphaned_and_absorbed_is
