use Rattle.k_laws.proofs.FrameLaws.{lists_keep_their_lengths}
use Rattle.k_laws.proofs.frame.lists_keep_their_lengths.Goals as goal

pub returns : goal.returns
returns c = lists_keep_their_lengths
