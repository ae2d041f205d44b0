use Rattle.k_laws.proofs.ChangesLaws.{what_the_end_of_a_process_changes_in_cells-cell, what_the_end_of_a_process_changes_in_cells-kernel, what_the_end_of_a_process_changes_in_cells-others}
use Rattle.k_laws.proofs.heaps.what_the_end_of_a_process_changes_in_cells.Goals as goal

pub returns-clause-cell : goal.returns-clause-cell
returns-clause-cell c = what_the_end_of_a_process_changes_in_cells-cell

pub returns-clause-kernel : goal.returns-clause-kernel
returns-clause-kernel c = what_the_end_of_a_process_changes_in_cells-kernel

pub returns-clause-others : goal.returns-clause-others
returns-clause-others c = what_the_end_of_a_process_changes_in_cells-others
