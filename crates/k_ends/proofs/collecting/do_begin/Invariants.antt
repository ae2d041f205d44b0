use Rattle.k_ends.proofs.collecting.do_begin.Given as goal

abbrev pub ghost-begin_heap : goal.ghost-begin_heap
ghost-begin_heap g a = g.basis.trace

abbrev pub ghost-publish : goal.ghost-publish
ghost-publish g a = g.basis.trace
