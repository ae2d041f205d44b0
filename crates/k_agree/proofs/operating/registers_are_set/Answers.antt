use Rattle.k_agree.proofs.Given.{clear_alone, dir_alone, move_alone}
use Rattle.k_agree.proofs.operating.registers_are_set.Goals as goal

pub returns-clause-moved : goal.returns-clause-moved
returns-clause-moved c = move_alone

pub returns-clause-dropped : goal.returns-clause-dropped
returns-clause-dropped c = clear_alone

pub returns-clause-directory : goal.returns-clause-directory
returns-clause-directory c = dir_alone
