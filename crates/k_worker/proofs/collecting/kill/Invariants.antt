use Rattle.k_worker.proofs.collecting.kill.Given as goal

abbrev pub ghost-do_kill : goal.ghost-do_kill
ghost-do_kill g a = g.W.WorldName.world

abbrev pub ghost-show : goal.ghost-show
ghost-show g a = record { trace = g.W.WorldName.world.trace; watched = g.W.WorldName.watched }
