use Rattle.k_pair.proofs.attaching.join.Given as goal

abbrev pub ghost-charge_process : goal.ghost-charge_process
ghost-charge_process g a = g.trace
