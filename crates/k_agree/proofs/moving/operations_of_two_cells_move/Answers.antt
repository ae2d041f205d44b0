use Rattle.k_agree.proofs.Followed.{moved_both}
use Rattle.k_agree.proofs.moving.operations_of_two_cells_move.Goals as goal

pub returns : goal.returns
returns c = moved_both
