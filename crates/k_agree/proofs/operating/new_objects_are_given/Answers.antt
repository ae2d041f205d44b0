use Rattle.k_agree.proofs.Given.{new_alone, new_refused}
use Rattle.k_agree.proofs.operating.new_objects_are_given.Goals as goal

pub returns-clause-given : goal.returns-clause-given
returns-clause-given c = new_alone

pub returns-clause-refused : goal.returns-clause-refused
returns-clause-refused c = new_refused
