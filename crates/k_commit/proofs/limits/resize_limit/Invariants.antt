use Rattle.k_commit.proofs.limits.resize_limit.Given as goal

abbrev pub ghost-is_below : goal.ghost-is_below
ghost-is_below g a = g.trace
