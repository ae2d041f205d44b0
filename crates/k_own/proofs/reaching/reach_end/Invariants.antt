use Rattle.k_own.proofs.reaching.reach_end.Given as goal

abbrev pub ghost-is_above : goal.ghost-is_above
ghost-is_above g a = g.trace
