use Rattle.k_big.proofs.Charges.{charges_small}
use Rattle.k_big.proofs.laws.charges_are_small.Goals as goal

pub returns : goal.returns
returns c = charges_small
