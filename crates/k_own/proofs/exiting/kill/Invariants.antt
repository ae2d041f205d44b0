use Rattle.k_own.proofs.exiting.kill.Given as goal

abbrev pub ghost-meet_heap : goal.ghost-meet_heap
ghost-meet_heap g a = g.trace

abbrev pub ghost-meet_kernel : goal.ghost-meet_kernel
ghost-meet_kernel g a = g.trace

abbrev pub ghost-end_process : goal.ghost-end_process
ghost-end_process g a = g.trace
