use Rattle.k_calls.proofs.doing.do_with_shared.Given as goal

abbrev pub ghost-publish : goal.ghost-publish
ghost-publish g a = g.basis.trace

abbrev pub ghost-step_shared : goal.ghost-step_shared
ghost-step_shared g a = g.basis.trace
