use Rattle.k_operate.proofs.absorbing.do_collect_kernel.Given as goal

abbrev pub ghost-absorb_orphans : goal.ghost-absorb_orphans
ghost-absorb_orphans g a = g.world'

abbrev pub ghost-begin_kernel_collection : goal.ghost-begin_kernel_collection
ghost-begin_kernel_collection g a = g.world'

abbrev pub ghost-mark_kernel_collection : goal.ghost-mark_kernel_collection
ghost-mark_kernel_collection g a = g.world'

abbrev pub ghost-sweep_kernel_collection : goal.ghost-sweep_kernel_collection
ghost-sweep_kernel_collection g a = g.world'

abbrev pub ghost-end_kernel_collection : goal.ghost-end_kernel_collection
ghost-end_kernel_collection g a = g.world'
