use Rattle.k_operate.proofs.collecting.end_collection.Given as goal

abbrev pub ghost-end_swept_heap : goal.ghost-end_swept_heap
ghost-end_swept_heap g a = g.world'.trace
