use Rattle.k_text.proofs.Reports.{barrier_is}
use Rattle.k_text.proofs.worked.barrier_row.Goals as goal

pub returns : goal.returns
returns c = barrier_is
