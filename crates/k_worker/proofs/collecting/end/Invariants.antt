use Rattle.k_worker.proofs.collecting.end.Given as goal

abbrev pub ghost-end_collection : goal.ghost-end_collection
ghost-end_collection g a = g.W.WorldName.world

abbrev pub ghost-show : goal.ghost-show
ghost-show g a = record { trace = g.W.WorldName.world.trace; watched = g.W.WorldName.watched }
