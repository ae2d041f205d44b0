use Rattle.k_collect.proofs.ending.end_kernel_telling.Given as goal

abbrev pub ghost-meet_kernel : goal.ghost-meet_kernel
ghost-meet_kernel g a = g.trace

abbrev pub ghost-sweep_kernel_telling : goal.ghost-sweep_kernel_telling
ghost-sweep_kernel_telling g a = g.trace

abbrev pub ghost-end_swept_kernel : goal.ghost-end_swept_kernel
ghost-end_swept_kernel g a = g.trace
