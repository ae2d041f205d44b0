use Rattle.k_run.proofs.replaying.replay.Given as goal

abbrev pub ghost-replay : goal.ghost-replay
ghost-replay g a = record { trace = g.named.trace; table = a.heaps.now.book.journal.table }

abbrev pub ghost-outcome_of : goal.ghost-outcome_of
ghost-outcome_of g a = g.named.trace
