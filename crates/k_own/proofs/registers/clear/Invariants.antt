use Rattle.k_own.proofs.registers.clear.Given as goal

abbrev pub ghost-set_register : goal.ghost-set_register
ghost-set_register g a = g.before

abbrev pub ghost-commit_heap : goal.ghost-commit_heap
ghost-commit_heap g a = g.before
