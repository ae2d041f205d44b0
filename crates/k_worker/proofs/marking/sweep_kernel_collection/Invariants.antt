use Rattle.k_worker.proofs.marking.sweep_kernel_collection.Given as goal

abbrev pub ghost-sweep_kernel_collection : goal.ghost-sweep_kernel_collection
ghost-sweep_kernel_collection g a = g.world'
