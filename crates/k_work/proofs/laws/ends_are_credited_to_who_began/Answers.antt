use Rattle.k_work.proofs.Begun.{beginner_credited, end_began}
use Rattle.k_work.proofs.OneBeginning.{one_beginning}
use Rattle.k_work.proofs.laws.ends_are_credited_to_who_began.Goals as goal

pub returns-clause-began : goal.returns-clause-began
returns-clause-began c = end_began

pub returns-clause-one : goal.returns-clause-one
returns-clause-one c = one_beginning

pub returns-clause-credited : goal.returns-clause-credited
returns-clause-credited c = beginner_credited
