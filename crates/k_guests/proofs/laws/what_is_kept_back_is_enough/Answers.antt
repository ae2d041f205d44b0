use Rattle.k_guests.proofs.Reserve.{event_kept, published_kept}
use Rattle.k_guests.proofs.laws.what_is_kept_back_is_enough.Goals as goal

pub returns-clause-event : goal.returns-clause-event
returns-clause-event c = event_kept

pub returns-clause-published : goal.returns-clause-published
returns-clause-published c = published_kept
