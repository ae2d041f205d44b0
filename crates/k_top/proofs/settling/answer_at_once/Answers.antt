use Rattle.k_answers.proofs.Contract.{contract}
use Rattle.k_top.proofs.settling.answer_at_once.Goals as goal

pub returns-clause-answered : goal.returns-clause-answered
returns-clause-answered g c = contract _ _ _ _ c.tell_at_once.ensures.told
