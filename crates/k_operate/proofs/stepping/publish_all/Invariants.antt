use Rattle.k_operate.proofs.stepping.publish_all.Given as goal

abbrev pub ghost-publish : goal.ghost-publish
ghost-publish g a = g.world'.trace
