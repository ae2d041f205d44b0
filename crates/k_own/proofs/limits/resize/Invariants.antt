use Rattle.k_own.proofs.limits.resize.Given as goal

abbrev pub ghost-resize_limit : goal.ghost-resize_limit
ghost-resize_limit g a = g.before.trace

abbrev pub ghost-commit_heap : goal.ghost-commit_heap
ghost-commit_heap g a = g.before
