use Rattle.k_own.proofs.absorbing.absorb.Given as goal

abbrev pub ghost-meet_shared : goal.ghost-meet_shared
ghost-meet_shared g a = g.trace

abbrev pub ghost-meet_kernel : goal.ghost-meet_kernel
ghost-meet_kernel g a = g.trace

abbrev pub ghost-take_over : goal.ghost-take_over
ghost-take_over g a = g.trace
