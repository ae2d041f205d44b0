use Rattle.k_collect.proofs.ending.end_heap_listing.Given as goal

abbrev pub ghost-end_heap_telling : goal.ghost-end_heap_telling
ghost-end_heap_telling g a = g.trace
