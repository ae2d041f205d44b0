use Rattle.k_collect.proofs.settling.settle_heap.Given as goal

abbrev pub ghost-publish : goal.ghost-publish
ghost-publish g a = g.trace

abbrev pub ghost-mark_heap : goal.ghost-mark_heap
ghost-mark_heap g a = g.trace

abbrev pub ghost-end_heap : goal.ghost-end_heap
ghost-end_heap g a = g.trace
