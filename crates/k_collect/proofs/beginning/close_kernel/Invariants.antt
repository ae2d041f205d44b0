use Rattle.k_collect.proofs.beginning.close_kernel.Given as goal

abbrev pub ghost-meet_kernel : goal.ghost-meet_kernel
ghost-meet_kernel g a = g.trace
