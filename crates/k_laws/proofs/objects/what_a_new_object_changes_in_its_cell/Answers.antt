use Rattle.k_laws.proofs.ChangesLaws.{what_a_new_object_changes_in_its_cell-cell, what_a_new_object_changes_in_its_cell-others}
use Rattle.k_laws.proofs.objects.what_a_new_object_changes_in_its_cell.Goals as goal

pub returns-clause-cell : goal.returns-clause-cell
returns-clause-cell c = what_a_new_object_changes_in_its_cell-cell

pub returns-clause-others : goal.returns-clause-others
returns-clause-others c = what_a_new_object_changes_in_its_cell-others
