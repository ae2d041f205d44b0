use Rattle.k_operate.proofs.stepping.do_alone.Given as goal

abbrev pub ghost-step_own : goal.ghost-step_own
ghost-step_own g a = g.world'.trace
