use Rattle.k_ends.proofs.killing.do_kill.Given as goal

abbrev pub ghost-publish : goal.ghost-publish
ghost-publish g a = g.basis.trace

abbrev pub ghost-kill : goal.ghost-kill
ghost-kill g a = g.basis.trace
