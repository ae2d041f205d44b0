use Rattle.k_calls.proofs.doing.publish_all.Given as goal

abbrev pub ghost-publish : goal.ghost-publish
ghost-publish g a = g.basis.trace
