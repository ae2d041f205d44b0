use Rattle.k_ends.proofs.collecting.do_settle.Given as goal

abbrev pub ghost-settle_heap : goal.ghost-settle_heap
ghost-settle_heap g a = g.basis.trace
