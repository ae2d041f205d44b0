use Rattle.k_collect.proofs.beginning.begin_heap.Given as goal

abbrev pub ghost-meet_heap : goal.ghost-meet_heap
ghost-meet_heap g a = g.trace
