use Rattle.k_operate.proofs.collecting.sweep_collection.Given as goal

abbrev pub ghost-sweep_heap : goal.ghost-sweep_heap
ghost-sweep_heap g a = g.world'.trace
