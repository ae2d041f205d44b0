use Rattle.k_laws.proofs.Laws.{termination_leaves_the_rest-rest, termination_leaves_the_rest-exit, termination_leaves_the_rest-exits, termination_leaves_the_rest-kill, termination_leaves_the_rest-again}
use Rattle.k_laws.proofs.termination.termination_leaves_the_rest.Goals as goal

pub returns-clause-rest : goal.returns-clause-rest
returns-clause-rest c = termination_leaves_the_rest-rest

pub returns-clause-exit : goal.returns-clause-exit
returns-clause-exit c = termination_leaves_the_rest-exit

pub returns-clause-exits : goal.returns-clause-exits
returns-clause-exits c = termination_leaves_the_rest-exits

pub returns-clause-kill : goal.returns-clause-kill
returns-clause-kill c = termination_leaves_the_rest-kill

pub returns-clause-again : goal.returns-clause-again
returns-clause-again c = termination_leaves_the_rest-again
