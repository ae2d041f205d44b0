use Rattle.k_laws.proofs.SquaresLaws.{touched_cells_are_told}
use Rattle.k_laws.proofs.replies_told.touched_cells_are_told.Goals as goal

pub returns : goal.returns
returns c = touched_cells_are_told
