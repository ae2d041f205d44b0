use Rattle.k_worker.proofs.stepping.do_under_kernel.Given as goal

abbrev pub ghost-reach : goal.ghost-reach
ghost-reach g a = g.W.WorldName.world.trace

abbrev pub ghost-do_with_kernel : goal.ghost-do_with_kernel
ghost-do_with_kernel g a = g.W.WorldName.world

abbrev pub ghost-show : goal.ghost-show
ghost-show g a = record { trace = g.W.WorldName.world.trace; watched = g.W.WorldName.watched }
