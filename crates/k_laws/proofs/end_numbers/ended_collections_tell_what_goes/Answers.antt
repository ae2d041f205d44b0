use Rattle.k_laws.proofs.KeptLaws.{ended_collections_tell_what_goes}
use Rattle.k_laws.proofs.end_numbers.ended_collections_tell_what_goes.Goals as goal

pub returns : goal.returns
returns c = ended_collections_tell_what_goes
