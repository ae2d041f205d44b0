use Rattle.k_complete.proofs.closing.close_all.Given as goal

abbrev pub ghost-all_have_ended : goal.ghost-all_have_ended
ghost-all_have_ended g a = g.world'.trace

abbrev pub ghost-absorb_orphans : goal.ghost-absorb_orphans
ghost-absorb_orphans g a = g.world'

abbrev pub ghost-collect_last : goal.ghost-collect_last
ghost-collect_last g a = g.world'
