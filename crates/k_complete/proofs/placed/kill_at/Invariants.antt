use Rattle.k_complete.proofs.placed.kill_at.Given as goal

abbrev pub ghost-do_kill : goal.ghost-do_kill
ghost-do_kill g a = g.world'
