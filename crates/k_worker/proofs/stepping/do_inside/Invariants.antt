use Rattle.k_worker.proofs.stepping.do_inside.Given as goal

abbrev pub ghost-do_inside : goal.ghost-do_inside
ghost-do_inside g a = g.W.WorldName.world
