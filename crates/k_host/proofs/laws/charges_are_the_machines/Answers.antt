use Rattle.k_host.proofs.Charged.{charge_in_journal, charge_of_machine}
use Rattle.k_host.proofs.laws.charges_are_the_machines.Goals as goal

pub returns-clause-journal : goal.returns-clause-journal
returns-clause-journal c = charge_in_journal

pub returns-clause-inside : goal.returns-clause-inside
returns-clause-inside c = charge_of_machine
