use Rattle.k_complete.proofs.placed.do_at.Given as goal

abbrev pub ghost-kill_at : goal.ghost-kill_at
ghost-kill_at g a = g.world'

abbrev pub ghost-do_next : goal.ghost-do_next
ghost-do_next g a = g.world'
