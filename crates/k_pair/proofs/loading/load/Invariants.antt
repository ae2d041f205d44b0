use Rattle.k_pair.proofs.loading.load.Given as goal

abbrev pub ghost-set_register : goal.ghost-set_register
ghost-set_register g a = g.S.StepName.before.own
