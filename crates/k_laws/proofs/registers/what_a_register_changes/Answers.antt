use Rattle.k_laws.proofs.ChangesLaws.{what_a_register_changes-cell, what_a_register_changes-others, what_a_register_changes-book}
use Rattle.k_laws.proofs.registers.what_a_register_changes.Goals as goal

pub returns-clause-cell : goal.returns-clause-cell
returns-clause-cell c = what_a_register_changes-cell

pub returns-clause-others : goal.returns-clause-others
returns-clause-others c = what_a_register_changes-others

pub returns-clause-book : goal.returns-clause-book
returns-clause-book c = what_a_register_changes-book
