use Rattle.k_ends.proofs.whole.do_collect.Given as goal

abbrev pub ghost-publish : goal.ghost-publish
ghost-publish g a = g.basis.trace

abbrev pub ghost-begin_heap : goal.ghost-begin_heap
ghost-begin_heap g a = g.basis.trace

abbrev pub ghost-mark_heap : goal.ghost-mark_heap
ghost-mark_heap g a = g.basis.trace

abbrev pub ghost-end_heap_listing : goal.ghost-end_heap_listing
ghost-end_heap_listing g a = g.basis.trace
