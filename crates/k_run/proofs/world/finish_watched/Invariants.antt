use Rattle.k_run.proofs.world.finish_watched.Given as goal

abbrev pub ghost-show_end : goal.ghost-show_end
ghost-show_end g a = g.W.WorldName.world.trace

abbrev pub ghost-outcome_of : goal.ghost-outcome_of
ghost-outcome_of g a = g.W.WorldName.world.trace
