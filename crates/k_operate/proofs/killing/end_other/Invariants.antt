use Rattle.k_operate.proofs.killing.end_other.Given as goal

abbrev pub ghost-kill : goal.ghost-kill
ghost-kill g a = g.world'.trace
