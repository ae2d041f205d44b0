use Rattle.k_text.proofs.Reports.{first_run_is}
use Rattle.k_text.proofs.worked.first_run_row.Goals as goal

pub returns : goal.returns
returns c = first_run_is
