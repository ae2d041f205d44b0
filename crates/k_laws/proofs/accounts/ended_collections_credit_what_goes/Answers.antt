use Rattle.k_laws.proofs.KeptLaws.{ended_collections_credit_what_goes}
use Rattle.k_laws.proofs.accounts.ended_collections_credit_what_goes.Goals as goal

pub returns : goal.returns
returns c = ended_collections_credit_what_goes
