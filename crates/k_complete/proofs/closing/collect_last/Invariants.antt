use Rattle.k_complete.proofs.closing.collect_last.Given as goal

abbrev pub ghost-close_kernel : goal.ghost-close_kernel
ghost-close_kernel g a = g.world'.trace

abbrev pub ghost-mark_kernel_collection : goal.ghost-mark_kernel_collection
ghost-mark_kernel_collection g a = g.world'

abbrev pub ghost-end_kernel : goal.ghost-end_kernel
ghost-end_kernel g a = g.world'.trace
