use Rattle.k_laws.proofs.Laws.{termination_credits_the_whole_charge-end, termination_credits_the_whole_charge-exit, termination_credits_the_whole_charge-kill, termination_credits_the_whole_charge-may, termination_credits_the_whole_charge-another}
use Rattle.k_laws.proofs.termination.termination_credits_the_whole_charge.Goals as goal

pub returns-clause-end : goal.returns-clause-end
returns-clause-end c = termination_credits_the_whole_charge-end

pub returns-clause-exit : goal.returns-clause-exit
returns-clause-exit c = termination_credits_the_whole_charge-exit

pub returns-clause-kill : goal.returns-clause-kill
returns-clause-kill c = termination_credits_the_whole_charge-kill

pub returns-clause-may : goal.returns-clause-may
returns-clause-may c = termination_credits_the_whole_charge-may

pub returns-clause-another : goal.returns-clause-another
returns-clause-another c = termination_credits_the_whole_charge-another
