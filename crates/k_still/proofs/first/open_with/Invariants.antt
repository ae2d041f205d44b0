use Rattle.k_still.proofs.first.open_with.Given as goal

abbrev pub ghost-open_book : goal.ghost-open_book
ghost-open_book g a = g.world'

abbrev pub ghost-open_heaps : goal.ghost-open_heaps
ghost-open_heaps g a = g.world'
