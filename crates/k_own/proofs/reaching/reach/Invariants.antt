use Rattle.k_own.proofs.reaching.reach.Given as goal

abbrev pub ghost-reach_through : goal.ghost-reach_through
ghost-reach_through g a = g.trace

abbrev pub ghost-reach_end : goal.ghost-reach_end
ghost-reach_end g a = g.trace
