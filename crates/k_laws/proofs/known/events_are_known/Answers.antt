use Rattle.k_laws.proofs.KnownLaws.{events_are_known}
use Rattle.k_laws.proofs.known.events_are_known.Goals as goal

pub returns : goal.returns
returns c = events_are_known
