use Rattle.k_own.proofs.accesses.refuse.Given as goal

abbrev pub ghost-commit_heap : goal.ghost-commit_heap
ghost-commit_heap g a = g.before
