use Rattle.k_ends.proofs.collecting.do_mark_kernel.Given as goal

abbrev pub ghost-mark_kernel : goal.ghost-mark_kernel
ghost-mark_kernel g a = g.basis.trace
