use Rattle.k_operate.proofs.collecting.begin_kernel_collection.Given as goal

abbrev pub ghost-begin_kernel : goal.ghost-begin_kernel
ghost-begin_kernel g a = g.world'.trace
