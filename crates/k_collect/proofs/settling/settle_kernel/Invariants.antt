use Rattle.k_collect.proofs.settling.settle_kernel.Given as goal

abbrev pub ghost-meet_kernel : goal.ghost-meet_kernel
ghost-meet_kernel g a = g.trace

abbrev pub ghost-mark_kernel : goal.ghost-mark_kernel
ghost-mark_kernel g a = g.trace

abbrev pub ghost-end_kernel : goal.ghost-end_kernel
ghost-end_kernel g a = g.trace
