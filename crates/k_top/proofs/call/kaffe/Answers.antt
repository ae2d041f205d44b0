use Rattle.k_answers.proofs.Contract.{contract}
use Rattle.k_top.proofs.call.kaffe.Goals as goal

pub returns-clause-answered : goal.returns-clause-answered
returns-clause-answered g c = contract _ _ _ _ c.tell.ensures.told
