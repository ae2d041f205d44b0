use Rattle.k_calls.proofs.doing.do_with_kernel.Given as goal

abbrev pub ghost-publish : goal.ghost-publish
ghost-publish g a = g.basis.trace

abbrev pub ghost-step_kernel : goal.ghost-step_kernel
ghost-step_kernel g a = g.basis.trace
