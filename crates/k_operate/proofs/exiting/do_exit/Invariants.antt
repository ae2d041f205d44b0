use Rattle.k_operate.proofs.exiting.do_exit.Given as goal

abbrev pub ghost-exit : goal.ghost-exit
ghost-exit g a = g.world'.trace
