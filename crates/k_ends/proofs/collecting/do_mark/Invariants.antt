use Rattle.k_ends.proofs.collecting.do_mark.Given as goal

abbrev pub ghost-mark_heap : goal.ghost-mark_heap
ghost-mark_heap g a = g.basis.trace
