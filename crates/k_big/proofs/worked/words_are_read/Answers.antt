use Rattle.k_big.proofs.Computed.{words_are}
use Rattle.k_big.proofs.worked.words_are_read.Goals as goal

pub returns : goal.returns
returns c = words_are
