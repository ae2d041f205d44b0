use Rattle.k_operate.proofs.absorbing.absorb_orphan.Given as goal

abbrev pub ghost-absorb : goal.ghost-absorb
ghost-absorb g a = g.world'.trace
