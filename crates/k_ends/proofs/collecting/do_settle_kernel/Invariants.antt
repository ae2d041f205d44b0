use Rattle.k_ends.proofs.collecting.do_settle_kernel.Given as goal

abbrev pub ghost-settle_kernel : goal.ghost-settle_kernel
ghost-settle_kernel g a = g.basis.trace
