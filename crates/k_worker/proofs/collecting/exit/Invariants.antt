use Rattle.k_worker.proofs.collecting.exit.Given as goal

abbrev pub ghost-publish_all : goal.ghost-publish_all
ghost-publish_all g a = g.W.WorldName.world

abbrev pub ghost-do_exit : goal.ghost-do_exit
ghost-do_exit g a = g.W.WorldName.world

abbrev pub ghost-show : goal.ghost-show
ghost-show g a = record { trace = g.W.WorldName.world.trace; watched = g.W.WorldName.watched }
