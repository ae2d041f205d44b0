use Rattle.k_big.proofs.Computed.{smallest_summary_is}
use Rattle.k_big.proofs.worked.smallest_summary_row.Goals as goal

pub returns : goal.returns
returns c = smallest_summary_is
