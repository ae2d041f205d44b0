use Rattle.k_own.proofs.limits.spare.Given as goal

abbrev pub ghost-is_above : goal.ghost-is_above
ghost-is_above g a = g.before.trace

abbrev pub ghost-commit_heap : goal.ghost-commit_heap
ghost-commit_heap g a = g.before
