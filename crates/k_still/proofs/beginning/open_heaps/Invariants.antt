use Rattle.k_still.proofs.beginning.open_heaps.Given as goal

abbrev pub ghost-open_kernel : goal.ghost-open_kernel
ghost-open_kernel g a = g.world'

abbrev pub ghost-open_processes : goal.ghost-open_processes
ghost-open_processes g a = g.world'

abbrev pub ghost-open_shared : goal.ghost-open_shared
ghost-open_shared g a = g.world'
