use Rattle.k_agree.proofs.Beside.{get_beside, get_refused_beside}
use Rattle.k_agree.proofs.accessing.gets_are_given.Goals as goal

pub returns-clause-told : goal.returns-clause-told
returns-clause-told c = get_beside

pub returns-clause-refused : goal.returns-clause-refused
returns-clause-refused c = get_refused_beside
