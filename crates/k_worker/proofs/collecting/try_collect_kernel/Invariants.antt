use Rattle.k_worker.proofs.collecting.try_collect_kernel.Given as goal

abbrev pub ghost-mark_kernel_collection : goal.ghost-mark_kernel_collection
ghost-mark_kernel_collection g a = g.W.WorldName.world

abbrev pub ghost-sweep_kernel_collection : goal.ghost-sweep_kernel_collection
ghost-sweep_kernel_collection g a = g.W.WorldName.world
