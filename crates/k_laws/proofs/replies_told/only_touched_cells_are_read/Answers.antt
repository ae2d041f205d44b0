use Rattle.k_laws.proofs.SquaresLaws.{only_touched_cells_are_read-replies, only_touched_cells_are_read-parts}
use Rattle.k_laws.proofs.replies_told.only_touched_cells_are_read.Goals as goal

pub returns-clause-replies : goal.returns-clause-replies
returns-clause-replies c = only_touched_cells_are_read-replies

pub returns-clause-parts : goal.returns-clause-parts
returns-clause-parts c = only_touched_cells_are_read-parts
