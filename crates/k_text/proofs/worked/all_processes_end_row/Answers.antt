use Rattle.k_text.proofs.Reports.{all_processes_end_is}
use Rattle.k_text.proofs.worked.all_processes_end_row.Goals as goal

pub returns : goal.returns
returns c = all_processes_end_is
