use Rattle.k_own.proofs.allocating.new.Given as goal

abbrev pub ghost-charge_process : goal.ghost-charge_process
ghost-charge_process g a = g.before.trace

abbrev pub ghost-set_register : goal.ghost-set_register
ghost-set_register g a = g.before

abbrev pub ghost-commit_heap : goal.ghost-commit_heap
ghost-commit_heap g a = g.before
