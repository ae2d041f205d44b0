use Rattle.k_worker.proofs.marking.sweep_collection.Given as goal

abbrev pub ghost-sweep_collection : goal.ghost-sweep_collection
ghost-sweep_collection g a = g.world'
