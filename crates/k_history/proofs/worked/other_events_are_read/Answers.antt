use Rattle.k_history.proofs.Readings.{other_events_are_read}
use Rattle.k_history.proofs.worked.other_events_are_read.Goals as goal

pub returns : goal.returns
returns c = other_events_are_read
