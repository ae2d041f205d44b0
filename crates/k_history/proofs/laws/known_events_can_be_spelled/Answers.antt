use Rattle.k_reports.proofs.KnownEvents.{known_event}
use Rattle.k_history.proofs.laws.known_events_can_be_spelled.Goals as goal

pub returns : goal.returns
returns c = known_event
