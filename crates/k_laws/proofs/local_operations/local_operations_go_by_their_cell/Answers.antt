use Rattle.k_laws.proofs.FrameLaws.{local_operations_go_by_their_cell-local, local_operations_go_by_their_cell-replies, local_operations_go_by_their_cell-possible, local_operations_go_by_their_cell-parts, local_operations_go_by_their_cell-book, local_operations_go_by_their_cell-touched}
use Rattle.k_laws.proofs.local_operations.local_operations_go_by_their_cell.Goals as goal

pub returns-clause-local : goal.returns-clause-local
returns-clause-local c = local_operations_go_by_their_cell-local

pub returns-clause-replies : goal.returns-clause-replies
returns-clause-replies c = local_operations_go_by_their_cell-replies

pub returns-clause-possible : goal.returns-clause-possible
returns-clause-possible c = local_operations_go_by_their_cell-possible

pub returns-clause-parts : goal.returns-clause-parts
returns-clause-parts c = local_operations_go_by_their_cell-parts

pub returns-clause-book : goal.returns-clause-book
returns-clause-book c = local_operations_go_by_their_cell-book

pub returns-clause-touched : goal.returns-clause-touched
returns-clause-touched c = local_operations_go_by_their_cell-touched
