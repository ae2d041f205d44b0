use Rattle.k_big.proofs.Computed.{smallest_trace_is}
use Rattle.k_big.proofs.worked.smallest_trace_row.Goals as goal

pub returns : goal.returns
returns c = smallest_trace_is
