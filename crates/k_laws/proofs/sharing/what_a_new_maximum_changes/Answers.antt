use Rattle.k_laws.proofs.ChangesLaws.{what_a_new_maximum_changes-cells, what_a_new_maximum_changes-book}
use Rattle.k_laws.proofs.sharing.what_a_new_maximum_changes.Goals as goal

pub returns-clause-cells : goal.returns-clause-cells
returns-clause-cells c = what_a_new_maximum_changes-cells

pub returns-clause-book : goal.returns-clause-book
returns-clause-book c = what_a_new_maximum_changes-book
