use Rattle.k_run.proofs.world.end_locked.Given as goal

abbrev pub ghost-end_all : goal.ghost-end_all
ghost-end_all g a = g.W.WorldName.world
