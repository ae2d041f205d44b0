use Rattle.k_laws.proofs.ChangesLaws.{what_the_end_of_a_collection_changes_in_its_cell-cell, what_the_end_of_a_collection_changes_in_its_cell-others}
use Rattle.k_laws.proofs.heaps.what_the_end_of_a_collection_changes_in_its_cell.Goals as goal

pub returns-clause-cell : goal.returns-clause-cell
returns-clause-cell c = what_the_end_of_a_collection_changes_in_its_cell-cell

pub returns-clause-others : goal.returns-clause-others
returns-clause-others c = what_the_end_of_a_collection_changes_in_its_cell-others
