use Rattle.k_laws.proofs.Laws.{charges_go_up_the_path-raised, charges_go_up_the_path-limits}
use Rattle.k_laws.proofs.charges.charges_go_up_the_path.Goals as goal

pub returns-clause-raised : goal.returns-clause-raised
returns-clause-raised c = charges_go_up_the_path-raised

pub returns-clause-limits : goal.returns-clause-limits
returns-clause-limits c = charges_go_up_the_path-limits
