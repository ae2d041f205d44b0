use Rattle.k_laws.proofs.LawfulLaws.{possible_events_are_lawful}
use Rattle.k_laws.proofs.events.possible_events_are_lawful.Goals as goal

pub returns : goal.returns
returns c = possible_events_are_lawful
