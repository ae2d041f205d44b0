use Rattle.k_worker.proofs.stepping.do_under_book.Given as goal

abbrev pub ghost-publish_all : goal.ghost-publish_all
ghost-publish_all g a = g.W.WorldName.world

abbrev pub ghost-reach : goal.ghost-reach
ghost-reach g a = g.W.WorldName.world.trace

abbrev pub ghost-do_alone : goal.ghost-do_alone
ghost-do_alone g a = g.W.WorldName.world

abbrev pub ghost-show : goal.ghost-show
ghost-show g a = record { trace = g.W.WorldName.world.trace; watched = g.W.WorldName.watched }
