use Rattle.k_history.proofs.Readings.{histories_are_read}
use Rattle.k_history.proofs.worked.histories_are_read.Goals as goal

pub returns : goal.returns
returns c = histories_are_read
