use Rattle.k_laws.proofs.SquaresLaws.{what_is_let_go_is_counted-pins, what_is_let_go_is_counted-entries, what_is_let_go_is_counted-charges}
use Rattle.k_laws.proofs.owed.what_is_let_go_is_counted.Goals as goal

pub returns-clause-pins : goal.returns-clause-pins
returns-clause-pins c = what_is_let_go_is_counted-pins

pub returns-clause-entries : goal.returns-clause-entries
returns-clause-entries c = what_is_let_go_is_counted-entries

pub returns-clause-charges : goal.returns-clause-charges
returns-clause-charges c = what_is_let_go_is_counted-charges
