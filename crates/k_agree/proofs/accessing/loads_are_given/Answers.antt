use Rattle.k_agree.proofs.Beside.{load_refused_beside, loaded_beside}
use Rattle.k_agree.proofs.accessing.loads_are_given.Goals as goal

pub returns-clause-loaded : goal.returns-clause-loaded
returns-clause-loaded c = loaded_beside

pub returns-clause-refused : goal.returns-clause-refused
returns-clause-refused c = load_refused_beside
