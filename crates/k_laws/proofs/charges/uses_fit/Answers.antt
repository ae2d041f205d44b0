use Rattle.k_laws.proofs.Laws.{uses_fit}
use Rattle.k_laws.proofs.charges.uses_fit.Goals as goal

pub returns : goal.returns
returns c = uses_fit
