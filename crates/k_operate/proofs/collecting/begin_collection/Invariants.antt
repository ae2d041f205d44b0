use Rattle.k_operate.proofs.collecting.begin_collection.Given as goal

abbrev pub ghost-begin_heap : goal.ghost-begin_heap
ghost-begin_heap g a = g.world'.trace
