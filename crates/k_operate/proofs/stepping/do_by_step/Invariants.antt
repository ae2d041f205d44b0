use Rattle.k_operate.proofs.stepping.do_by_step.Given as goal

abbrev pub ghost-do_alone : goal.ghost-do_alone
ghost-do_alone g a = g.world'

abbrev pub ghost-do_with_kernel : goal.ghost-do_with_kernel
ghost-do_with_kernel g a = g.world'

abbrev pub ghost-do_with_shared : goal.ghost-do_with_shared
ghost-do_with_shared g a = g.world'

abbrev pub ghost-reach : goal.ghost-reach
ghost-reach g a = g.world'.trace
