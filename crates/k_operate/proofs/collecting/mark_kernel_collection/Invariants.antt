use Rattle.k_operate.proofs.collecting.mark_kernel_collection.Given as goal

abbrev pub ghost-mark_kernel : goal.ghost-mark_kernel
ghost-mark_kernel g a = g.world'.trace
