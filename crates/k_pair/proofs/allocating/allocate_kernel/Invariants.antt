use Rattle.k_pair.proofs.allocating.allocate_kernel.Given as goal

abbrev pub ghost-set_register : goal.ghost-set_register
ghost-set_register g a = g.S.StepName.before.own
