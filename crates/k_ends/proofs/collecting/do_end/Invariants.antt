use Rattle.k_ends.proofs.collecting.do_end.Given as goal

abbrev pub ghost-end_heap : goal.ghost-end_heap
ghost-end_heap g a = g.basis.trace

abbrev pub ghost-publish : goal.ghost-publish
ghost-publish g a = g.basis.trace
