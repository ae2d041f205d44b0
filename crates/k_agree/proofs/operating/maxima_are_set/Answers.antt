use Rattle.k_agree.proofs.Killing.{resize_alone}
use Rattle.k_agree.proofs.operating.maxima_are_set.Goals as goal

pub returns : goal.returns
returns c = resize_alone
