use Rattle.k_history.proofs.Readings.{names_are_read}
use Rattle.k_history.proofs.worked.names_are_read.Goals as goal

pub returns : goal.returns
returns c = names_are_read
