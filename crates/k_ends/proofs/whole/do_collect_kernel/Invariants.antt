use Rattle.k_ends.proofs.whole.do_collect_kernel.Given as goal

abbrev pub ghost-publish : goal.ghost-publish
ghost-publish g a = g.basis.trace

abbrev pub ghost-begin_kernel : goal.ghost-begin_kernel
ghost-begin_kernel g a = g.basis.trace

abbrev pub ghost-mark_kernel : goal.ghost-mark_kernel
ghost-mark_kernel g a = g.basis.trace

abbrev pub ghost-end_kernel_listing : goal.ghost-end_kernel_listing
ghost-end_kernel_listing g a = g.basis.trace
