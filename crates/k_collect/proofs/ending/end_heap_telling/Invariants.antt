use Rattle.k_collect.proofs.ending.end_heap_telling.Given as goal

abbrev pub ghost-meet_heap : goal.ghost-meet_heap
ghost-meet_heap g a = g.trace

abbrev pub ghost-sweep_heap_telling : goal.ghost-sweep_heap_telling
ghost-sweep_heap_telling g a = g.trace

abbrev pub ghost-end_swept_heap : goal.ghost-end_swept_heap
ghost-end_swept_heap g a = g.trace
