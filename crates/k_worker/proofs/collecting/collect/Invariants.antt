use Rattle.k_worker.proofs.collecting.collect.Given as goal

abbrev pub ghost-mark_collection : goal.ghost-mark_collection
ghost-mark_collection g a = g.W.WorldName.world

abbrev pub ghost-sweep_collection : goal.ghost-sweep_collection
ghost-sweep_collection g a = g.W.WorldName.world
