use Rattle.k_outcome.proofs.outcome.outcome_of.Given as goal

abbrev pub ghost-count_made : goal.ghost-count_made
ghost-count_made g a = g.trace
