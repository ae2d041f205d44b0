use Rattle.k_ends.proofs.collecting.do_exit.Given as goal

abbrev pub ghost-exit : goal.ghost-exit
ghost-exit g a = g.basis.trace

abbrev pub ghost-publish : goal.ghost-publish
ghost-publish g a = g.basis.trace
