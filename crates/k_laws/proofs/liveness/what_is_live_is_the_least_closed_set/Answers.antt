use Rattle.k_laws.proofs.Live.{live_is_least}
use Rattle.k_laws.proofs.liveness.what_is_live_is_the_least_closed_set.Goals as goal

pub returns : goal.returns
returns c = live_is_least
