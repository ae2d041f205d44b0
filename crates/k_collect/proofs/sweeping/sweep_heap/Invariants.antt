use Rattle.k_collect.proofs.sweeping.sweep_heap.Given as goal

abbrev pub ghost-sweep_heap_telling : goal.ghost-sweep_heap_telling
ghost-sweep_heap_telling g a = g.trace
