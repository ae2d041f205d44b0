use Rattle.k_mark.proofs.ReachedIs.{area_reaches, area_exits}
use Rattle.k_mark.proofs.laws.marked_is_the_closure.Goals as goal

pub returns-clause-reached : goal.returns-clause-reached
returns-clause-reached c = area_reaches

pub returns-clause-exits : goal.returns-clause-exits
returns-clause-exits c = area_exits
