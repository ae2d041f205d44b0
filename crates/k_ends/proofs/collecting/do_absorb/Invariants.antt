use Rattle.k_ends.proofs.collecting.do_absorb.Given as goal

abbrev pub ghost-absorb : goal.ghost-absorb
ghost-absorb g a = g.basis.trace
