use Rattle.k_operate.proofs.killing.do_kill.Given as goal

abbrev pub ghost-publish_all : goal.ghost-publish_all
ghost-publish_all g a = g.world'

abbrev pub ghost-reach : goal.ghost-reach
ghost-reach g a = g.world'.trace

abbrev pub ghost-end_other : goal.ghost-end_other
ghost-end_other g a = g.world'

abbrev pub ghost-do_alone : goal.ghost-do_alone
ghost-do_alone g a = g.world'
