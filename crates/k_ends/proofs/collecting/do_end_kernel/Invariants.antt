use Rattle.k_ends.proofs.collecting.do_end_kernel.Given as goal

abbrev pub ghost-end_kernel : goal.ghost-end_kernel
ghost-end_kernel g a = g.basis.trace
