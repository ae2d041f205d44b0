use Rattle.k_laws.proofs.ChangesLaws.{the_charge_is_told}
use Rattle.k_laws.proofs.ends.the_charge_is_told.Goals as goal

pub returns : goal.returns
returns c = the_charge_is_told
