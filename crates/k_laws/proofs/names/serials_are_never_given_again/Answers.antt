use Rattle.k_laws.proofs.KeptLaws.{serials_are_never_given_again-step, serials_are_never_given_again-gone}
use Rattle.k_laws.proofs.names.serials_are_never_given_again.Goals as goal

pub returns-clause-step : goal.returns-clause-step
returns-clause-step c = serials_are_never_given_again-step

pub returns-clause-gone : goal.returns-clause-gone
returns-clause-gone c = serials_are_never_given_again-gone
