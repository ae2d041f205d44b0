use Rattle.k_operate.proofs.stepping.do_with_kernel.Given as goal

abbrev pub ghost-step_kernel : goal.ghost-step_kernel
ghost-step_kernel g a = g.world'.trace
