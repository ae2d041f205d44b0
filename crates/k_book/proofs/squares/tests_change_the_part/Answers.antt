use Rattle.k_book.proofs.OnPart.{entered_on, left_on, shared_on, unshared_on, ended_on}
use Rattle.k_book.proofs.squares.tests_change_the_part.Goals as goal

pub returns-clause-entered : goal.returns-clause-entered
returns-clause-entered c = entered_on

pub returns-clause-left : goal.returns-clause-left
returns-clause-left c = left_on

pub returns-clause-shared : goal.returns-clause-shared
returns-clause-shared c = shared_on

pub returns-clause-unshared : goal.returns-clause-unshared
returns-clause-unshared c = unshared_on

pub returns-clause-ended : goal.returns-clause-ended
returns-clause-ended c = ended_on
