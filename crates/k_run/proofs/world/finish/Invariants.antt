use Rattle.k_run.proofs.world.finish.Given as goal

abbrev pub ghost-outcome_of : goal.ghost-outcome_of
ghost-outcome_of g a = g.W.WorldName.world.trace
