use Rattle.k_collect.proofs.ending.end_kernel.Given as goal

abbrev pub ghost-end_kernel_telling : goal.ghost-end_kernel_telling
ghost-end_kernel_telling g a = g.trace
