use Rattle.k_worker.proofs.stepping.do_under_shared.Given as goal

abbrev pub ghost-reach : goal.ghost-reach
ghost-reach g a = g.W.WorldName.world.trace

abbrev pub ghost-do_with_shared : goal.ghost-do_with_shared
ghost-do_with_shared g a = g.W.WorldName.world

abbrev pub ghost-show : goal.ghost-show
ghost-show g a = record { trace = g.W.WorldName.world.trace; watched = g.W.WorldName.watched }
