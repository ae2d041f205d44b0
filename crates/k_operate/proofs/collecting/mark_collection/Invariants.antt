use Rattle.k_operate.proofs.collecting.mark_collection.Given as goal

abbrev pub ghost-mark_heap : goal.ghost-mark_heap
ghost-mark_heap g a = g.world'.trace
