use Rattle.k_pair.proofs.allocating.allocate_shared.Given as goal

abbrev pub ghost-charge_process : goal.ghost-charge_process
ghost-charge_process g a = g.S.StepName.before.own.trace

abbrev pub ghost-set_register : goal.ghost-set_register
ghost-set_register g a = g.S.StepName.before.own
