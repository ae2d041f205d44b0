use Rattle.k_text.proofs.Reports.{a_process_ends_another_is}
use Rattle.k_text.proofs.worked.a_process_ends_another_row.Goals as goal

pub returns : goal.returns
returns c = a_process_ends_another_is
