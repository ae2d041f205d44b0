use Rattle.k_agree.proofs.Followed.{moved_alone}
use Rattle.k_agree.proofs.moving.operations_alone_move.Goals as goal

pub returns : goal.returns
returns c = moved_alone
