use Rattle.k_operate.proofs.stepping.do_with_shared.Given as goal

abbrev pub ghost-step_shared : goal.ghost-step_shared
ghost-step_shared g a = g.world'.trace
