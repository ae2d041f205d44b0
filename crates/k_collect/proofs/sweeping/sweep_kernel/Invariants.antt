use Rattle.k_collect.proofs.sweeping.sweep_kernel.Given as goal

abbrev pub ghost-sweep_kernel_telling : goal.ghost-sweep_kernel_telling
ghost-sweep_kernel_telling g a = g.trace
