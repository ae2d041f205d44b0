use Rattle.k_guests.proofs.Objects.{event_counts, objects_are_told, published_counts}
use Rattle.k_guests.proofs.laws.objects_come_and_go.Goals as goal

pub returns-clause-event : goal.returns-clause-event
returns-clause-event c = event_counts

pub returns-clause-told : goal.returns-clause-told
returns-clause-told c = objects_are_told

pub returns-clause-published : goal.returns-clause-published
returns-clause-published c = published_counts
