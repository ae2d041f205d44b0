use Rattle.k_mark.proofs.ReachedIs.{closure_is}
use Rattle.k_mark.proofs.laws.reached_is_the_closure.Goals as goal

pub returns : goal.returns
returns c = closure_is
