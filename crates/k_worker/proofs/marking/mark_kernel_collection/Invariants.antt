use Rattle.k_worker.proofs.marking.mark_kernel_collection.Given as goal

abbrev pub ghost-mark_kernel_collection : goal.ghost-mark_kernel_collection
ghost-mark_kernel_collection g a = g.world'
