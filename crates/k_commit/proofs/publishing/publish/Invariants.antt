use Rattle.k_commit.proofs.publishing.publish.Given as goal

abbrev pub ghost-meet_heap : goal.ghost-meet_heap
ghost-meet_heap g a = g.trace
