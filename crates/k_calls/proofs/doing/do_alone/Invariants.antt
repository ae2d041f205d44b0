use Rattle.k_calls.proofs.doing.do_alone.Given as goal

abbrev pub ghost-publish : goal.ghost-publish
ghost-publish g a = g.basis.trace

abbrev pub ghost-step_own : goal.ghost-step_own
ghost-step_own g a = g.basis.trace
