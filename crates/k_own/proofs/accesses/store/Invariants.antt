use Rattle.k_own.proofs.accesses.store.Given as goal

abbrev pub ghost-refuse : goal.ghost-refuse
ghost-refuse g a = g.before

abbrev pub ghost-commit_heap : goal.ghost-commit_heap
ghost-commit_heap g a = g.before
