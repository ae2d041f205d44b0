use Rattle.k_operate.proofs.collecting.end_kernel_collection.Given as goal

abbrev pub ghost-end_swept_kernel : goal.ghost-end_swept_kernel
ghost-end_swept_kernel g a = g.world'.trace
