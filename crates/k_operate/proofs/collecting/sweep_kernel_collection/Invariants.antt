use Rattle.k_operate.proofs.collecting.sweep_kernel_collection.Given as goal

abbrev pub ghost-sweep_kernel : goal.ghost-sweep_kernel
ghost-sweep_kernel g a = g.world'.trace
