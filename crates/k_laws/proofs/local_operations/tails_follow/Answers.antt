use Rattle.k_laws.proofs.FrameLaws.{tails_follow}
use Rattle.k_laws.proofs.local_operations.tails_follow.Goals as goal

pub returns : goal.returns
returns c = tails_follow
