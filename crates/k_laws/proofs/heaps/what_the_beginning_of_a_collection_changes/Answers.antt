use Rattle.k_laws.proofs.ChangesLaws.{what_the_beginning_of_a_collection_changes-cell, what_the_beginning_of_a_collection_changes-others, what_the_beginning_of_a_collection_changes-book}
use Rattle.k_laws.proofs.heaps.what_the_beginning_of_a_collection_changes.Goals as goal

pub returns-clause-cell : goal.returns-clause-cell
returns-clause-cell c = what_the_beginning_of_a_collection_changes-cell

pub returns-clause-others : goal.returns-clause-others
returns-clause-others c = what_the_beginning_of_a_collection_changes-others

pub returns-clause-book : goal.returns-clause-book
returns-clause-book c = what_the_beginning_of_a_collection_changes-book
