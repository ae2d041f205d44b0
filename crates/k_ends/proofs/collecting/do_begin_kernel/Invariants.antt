use Rattle.k_ends.proofs.collecting.do_begin_kernel.Given as goal

abbrev pub ghost-begin_kernel : goal.ghost-begin_kernel
ghost-begin_kernel g a = g.basis.trace

abbrev pub ghost-publish : goal.ghost-publish
ghost-publish g a = g.basis.trace
