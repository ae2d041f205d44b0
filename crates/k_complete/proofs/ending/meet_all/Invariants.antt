use Rattle.k_complete.proofs.ending.meet_all.Given as goal

abbrev pub ghost-meet_processes : goal.ghost-meet_processes
ghost-meet_processes g a = g.world'

abbrev pub ghost-meet_kernel : goal.ghost-meet_kernel
ghost-meet_kernel g a = g.world'.trace

abbrev pub ghost-meet_heaps : goal.ghost-meet_heaps
ghost-meet_heaps g a = g.world'
