use Rattle.k_worker.proofs.marking.mark_collection.Given as goal

abbrev pub ghost-mark_collection : goal.ghost-mark_collection
ghost-mark_collection g a = g.world'
