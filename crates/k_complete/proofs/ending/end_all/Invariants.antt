use Rattle.k_complete.proofs.ending.end_all.Given as goal

abbrev pub ghost-complete_all : goal.ghost-complete_all
ghost-complete_all g a = g.world'

abbrev pub ghost-close_all : goal.ghost-close_all
ghost-close_all g a = g.world'

abbrev pub ghost-meet_all : goal.ghost-meet_all
ghost-meet_all g a = g.world'
