use Rattle.k_agree.proofs.Stored.{an_exit, entered, entered_already, inside, no_exit}
use Rattle.k_agree.proofs.storing.stores_enter_once.Goals as goal

pub returns-clause-inside : goal.returns-clause-inside
returns-clause-inside c = inside

pub returns-clause-there : goal.returns-clause-there
returns-clause-there c = entered_already

pub returns-clause-entered : goal.returns-clause-entered
returns-clause-entered c = entered

pub returns-clause-no_exit : goal.returns-clause-no_exit
returns-clause-no_exit c = no_exit

pub returns-clause-exit : goal.returns-clause-exit
returns-clause-exit c = an_exit
