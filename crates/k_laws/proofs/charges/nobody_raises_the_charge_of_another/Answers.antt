use Rattle.k_laws.proofs.Laws.{nobody_raises_the_charge_of_another}
use Rattle.k_laws.proofs.charges.nobody_raises_the_charge_of_another.Goals as goal

pub returns : goal.returns
returns c = nobody_raises_the_charge_of_another
