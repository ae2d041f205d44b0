use Rattle.k_calls.proofs.doing.reached.Given as goal

abbrev pub ghost-reach : goal.ghost-reach
ghost-reach g a = g.basis.trace
