use Rattle.k_complete.proofs.replaying.do_line.Given as goal

abbrev pub ghost-meet_heap : goal.ghost-meet_heap
ghost-meet_heap g a = g.world'.trace

abbrev pub ghost-next : goal.ghost-next
ghost-next g a = g.world'

abbrev pub ghost-do_at : goal.ghost-do_at
ghost-do_at g a = g.world'

abbrev pub ghost-publish_all : goal.ghost-publish_all
ghost-publish_all g a = g.world'
